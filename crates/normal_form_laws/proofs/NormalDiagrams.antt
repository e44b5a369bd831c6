-- Normal forms without legs: degeneracies and identity diagrams keep them.
use Rattle.std.proofs.Common.{ℕ, [], refl, sym, ap, arith}
use Rattle.diagram_terms.specs.declared.place.Keep.TheVariants as keep
use Rattle.diagram_terms.specs.Family.{Dia, Arr}
use Rattle.diagram_terms.specs.Composite.{comp}
use Rattle.diagram_terms.specs.Least.{Leg, ValidLegs, LegsFactorBy}
use Rattle.degeneracy_laws.proofs.Degeneracies.{degeneracies_compose}
use Rattle.degeneracy_laws.proofs.Shapes.{degeneracy_ends}
use Rattle.normal_form_laws.specs.Laws.{DegeneraciesKeepNormalForms, ReducedSourcesAreNormal, NormalDiagramsAreNormal, IdentityDiagramsKeepNormalForms}
use Rattle.diagram_terms.specs.NormalForms.{normal_form}
use Rattle.normal_form_laws.proofs.Existence.{normal_forms_are_degeneracies, normal_forms_are_reduced, reduced_is_normal_form}

pub no_legs : (d : ℕ) (T : Dia d) → ValidLegs d T []
no_legs d T i l = absurd (omega arith)

pub none_factor : (d : ℕ) (S : Dia d) (a : Arr d) → LegsFactorBy d [] S a []
none_factor d S a = record { count = refl; sources = λ i l. absurd (omega arith); factors = λ i l. absurd (omega arith) }

pub degeneracies_keep_normal_forms : (d : ℕ) → DegeneraciesKeepNormalForms d
degeneracies_keep_normal_forms d S T e q =
    let vS = (degeneracy_ends d S T e q).0 in
    let N : Leg d = normal_form keep.Free d S [] in
    let n = normal_forms_are_degeneracies d S [] vS (no_legs d S) in
    let r = reduced_is_normal_form d T N.source [] [] (comp d e N.arrow) (no_legs d T)
    (degeneracies_compose d N.source S T N.arrow e n.1 q) (none_factor d N.source (comp d e N.arrow))
    (normal_forms_are_reduced d S [] vS (no_legs d S)) in
    sym r.0

pub reduced_sources_are_normal : (d : ℕ) → ReducedSourcesAreNormal d
reduced_sources_are_normal d S T a q r =
    ap (λ (g : Leg d). g.source) (sym (reduced_is_normal_form d T S [] [] a (no_legs d T) q (none_factor d S a) r).0)

pub normal_diagrams_are_normal : (d : ℕ) → NormalDiagramsAreNormal d
normal_diagrams_are_normal d T vT = sym (ap (λ (g : Leg d). g.source) (degeneracies_keep_normal_forms d (normal_form keep.Free d T []).source T
    (normal_form keep.Free d T []).arrow (normal_forms_are_degeneracies d T [] vT (no_legs d T)).1))

pub identity_diagrams_keep_normal_forms : (d : ℕ) → IdentityDiagramsKeepNormalForms d
unfolding normal_form
identity_diagrams_keep_normal_forms d M = refl
