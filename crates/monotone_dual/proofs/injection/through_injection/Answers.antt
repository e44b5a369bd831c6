use Rattle.std.proofs.Common.{◌≡◌, ℕ, List, length, sym, ap, ◌∙◌, subst}
use Rattle.diagram_terms.specs.Dual.{IsMonotone, AreBelow, after}
use Rattle.diagram_terms.proofs.Injections.{mono_through}
use Rattle.monotone_dual.proofs.injection.through_injection.Goals as goal

pub invariant_of-result : goal.invariant_of-result
invariant_of-result c =
    let e = c.args.e.now in
    let f = c.args.f.now in
    let g = c.in-Some.heights in
    let found = rw c.in-Some.is at c.in_ok-places.ensures.places in
    let inside = rw c.in-Some.is at c.in_ok-places.ensures.below in
    let same : after e.heights g ≡ f.heights = ap (λ (hs : List ℕ). after hs g) (sym c.as_slice-2.ensures) ∙ found ∙ c.as_slice.ensures in
    let below : AreBelow g (length e.heights) = subst (λ (hs : List ℕ). AreBelow g (length hs)) c.as_slice-2.ensures inside in
    record {
      monotone = mono_through e.heights g c.requires.injective below (subst IsMonotone (sym same) f.monotone);
      in_range = subst (AreBelow g) (sym c.len.ensures) below;
    }
