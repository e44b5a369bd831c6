use Rattle.std.proofs.Common.{ℕ, not, ◌&&◌, ◌||◌, nat_lt, sym, subst, ◌∙◌}
use Rattle.normalise.specs.FormTrees.{identity_test}
use Rattle.normalise.specs.StoreForms.{IsArrowOut}
use Rattle.normalise.proofs.FormsInStore.{leg_with-grows, arrow_with-grows}
use Rattle.normalise.proofs.level.level_of.Goals as goal

pub is_kept-requires-clause-fwd : goal.is_kept-requires-clause-fwd
is_kept-requires-clause-fwd c =
    subst (λ (s : ℕ). IsArrowOut c.args.store.now s c.known_factor-fwd.result) (sym c.source_at-before.ensures) c.known_factor-fwd.ensures.out

pub is_kept-requires-clause-bwd : goal.is_kept-requires-clause-bwd
is_kept-requires-clause-bwd c =
    subst (λ (s : ℕ). IsArrowOut c.args.store.now s c.known_factor-bwd.result) (sym c.source_at-behind.ensures) c.known_factor-bwd.ensures.out

pub returns-clause-level : goal.returns-clause-level
returns-clause-level c =
    let g = c.in_ok-kept.ensures.grows in
    let old = c.args.store.now in
    let new = c.is_kept.new.store in
    let f = c.known_factor-fwd.ensures.factor in
    let b = c.known_factor-bwd.ensures.factor in
    let p = f.tree in
    let q = b.tree in
    record {
      form = leg_with-grows old new _ c.known_form-source.result g c.known_form-source.ensures.form;
      fwd = arrow_with-grows old new _ c.known_factor-fwd.result g f;
      bwd = arrow_with-grows old new _ c.known_factor-bwd.result g b;
      kept = c.in_ok-kept.ensures.kept ∙ (λ i. not (identity_test (p i) && identity_test (q i)) || nat_lt 0 c.args.n);
    }
