use Rattle.degeneracy_tests.proofs.normals.is_kept_whole.Goals as goal

pub identity-requires : goal.identity-requires
identity-requires c = record { of_store = c.form_for.ensures.grows.diagrams c.in_ok-map.map.target c.in_ok-map.ensures.valid.target.of_store }
