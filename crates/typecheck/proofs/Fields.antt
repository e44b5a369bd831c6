-- The fields of a signature, and what callers see of it.
use Rattle.std.proofs.Common.{◌≡◌, ℕ, ◌≤◌, List, [], ◌∷◌, ◌++◌, length, get_or, map, Option, None, sym, ap, ◌∙◌, arith, vec_len, vec_capacity}
use Rattle.typecheck.specs.declared.signature.Signature.TheInside.{Inside}
use Rattle.diagram_terms.specs.declared.limits.TheConstants.{MAX_GENERATORS}
use Rattle.hashcons.specs.Contents.{Contents}
use Rattle.typecheck.specs.Points.{HaveDims}
use Rattle.typecheck.specs.Signatures.{Entry, SignatureState, entries_of, entry_at, room, generators_in, AreGoodOver}
use Rattle.typecheck.proofs.SideBySide.{length-entries_of, entries_of-push, boundary_at, dim_at, dims-entries_of}
use Rattle.typecheck.proofs.GoodSignatures.{have_dims}

-- the fields as they are seen
abbrev pub seen : Inside → SignatureState
seen s = record {
  entries = entries_of s.boundaries.items s.dims.items;
  spare = room (vec_len s.boundaries) (vec_capacity s.boundaries) (vec_capacity s.dims);
}

abbrev pub AreInStep : Inside → Type 0
AreInStep s = (vec_len s.boundaries ≡ vec_len s.dims) × (vec_len s.boundaries ≤ MAX_GENERATORS)

module _ (s : Inside) (v : SignatureState) (is : seen s ≡ v) (in_step : AreInStep s) where
  pub same_length : length s.boundaries.items ≡ length s.dims.items
  same_length = sym s.boundaries.ok.0 ∙ in_step.0 ∙ s.dims.ok.0

  pub count : vec_len s.boundaries ≡ length v.entries
  count =
      s.boundaries.ok.0 ∙ sym (length-entries_of s.boundaries.items s.dims.items same_length)
      ∙ ap (λ (u : SignatureState). length u.entries) is

  pub few : length v.entries ≤ MAX_GENERATORS
  few = let k = count in let l = in_step.1 in omega arith

  pub boundary_is : (i : ℕ) → get_or s.boundaries.items i None ≡ (entry_at v i).boundary
  boundary_is i =
      sym (boundary_at s.boundaries.items s.dims.items i same_length) ∙ ap (λ (u : SignatureState). (entry_at u i).boundary) is

  pub dim_is : (i : ℕ) → get_or s.dims.items i 0 ≡ (entry_at v i).dim
  dim_is i = sym (dim_at s.boundaries.items s.dims.items i same_length) ∙ ap (λ (u : SignatureState). (entry_at u i).dim) is

  pub dims_are : map (λ e. e.dim) v.entries ≡ s.dims.items
  dims_are =
      ap (λ (u : SignatureState). map (λ (e : Entry). e.dim) u.entries) (sym is) ∙ dims-entries_of s.boundaries.items s.dims.items same_length

  -- the dimensions are those of the generators, in a good signature
  pub dims_fit : (c : Contents) → AreGoodOver c v.entries → HaveDims (generators_in c v.entries) s.dims.items
  dims_fit c h = have_dims c v.entries h ∙ dims_are

  -- with one generator more
  pub pushed : (bs : List (Option (ℕ × ℕ))) (ns : List ℕ) (b : Option (ℕ × ℕ)) (n : ℕ) → bs ≡ s.boundaries.items ++ b ∷ []
      → ns ≡ s.dims.items ++ n ∷ [] → entries_of bs ns ≡ v.entries ++ record { boundary = b; dim = n } ∷ []
  pushed bs ns b n e f =
      ap (λ xs. entries_of xs ns) e ∙ ap (λ ms. entries_of (s.boundaries.items ++ b ∷ []) ms) f
      ∙ entries_of-push s.boundaries.items s.dims.items b n same_length
      ∙ ap (λ (u : SignatureState). u.entries ++ record { boundary = b; dim = n } ∷ []) is
