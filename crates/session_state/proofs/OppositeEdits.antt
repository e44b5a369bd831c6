-- Edits and their opposites, and how many things of each kind the lists hold before and after an edit.
use Rattle.std.proofs.Common.{◌≡◌, ℕ, ◌+◌, ◌-◌, ◌≤◌, List, [], ◌∷◌, ◌++◌, length, refl, sym, arith}
use Rattle.std.proofs.lemmas.List.{length_push, length-take}
use Rattle.std.proofs.lemmas.List.Edits.{length-insert, length-remove}
use Rattle.workspace_lists.specs.declared.names.Meaning.{Meaning}
use Rattle.workspace_lists.specs.declared.workspace.Generator.{Generator}
use Rattle.workspace_lists.specs.declared.workspace.Named.{Named}
use Rattle.workspace_lists.specs.declared.workspace.NamedMap.{NamedMap}
use Rattle.workspace_lists.specs.Held.{Lists}
use Rattle.session_state.specs.declared.edit.Edit.{Edit}
use Rattle.session_state.specs.declared.edit.Edit.TheVariants as edit
use Rattle.session_state.specs.Edits.{IsWithin, LeadsBack, LeadsForth, edited}
use Rattle.session_state.specs.Kinds.{AreOpposite, Kind, total_put, of_diagrams, of_generators, of_maps, puts, takes}

-- ---- opposites

module _ (g : Generator) (m : Meaning) where
  put_taken : (k : Kind) → puts k (edit.PutGenerator g m) ≡ takes k edit.TakeGenerator
  put_taken of_generators = refl
  put_taken of_diagrams = refl
  put_taken of_maps = refl

  no_other : (k : Kind) → takes k (edit.PutGenerator g m) ≡ puts k edit.TakeGenerator
  no_other of_generators = refl
  no_other of_diagrams = refl
  no_other of_maps = refl

  pub generator_put : AreOpposite edit.TakeGenerator (edit.PutGenerator g m)
  generator_put = record { put = put_taken; taken = no_other }

  pub generator_taken : AreOpposite (edit.PutGenerator g m) edit.TakeGenerator
  generator_taken = record { put = λ k. sym (no_other k); taken = λ k. sym (put_taken k) }

module _ (place at : ℕ) (d : Named) where
  diagram_put_taken : (k : Kind) → puts k (edit.PutDiagram at d) ≡ takes k (edit.TakeDiagram place)
  diagram_put_taken of_generators = refl
  diagram_put_taken of_diagrams = refl
  diagram_put_taken of_maps = refl

  diagram_no_other : (k : Kind) → takes k (edit.PutDiagram at d) ≡ puts k (edit.TakeDiagram place)
  diagram_no_other of_generators = refl
  diagram_no_other of_diagrams = refl
  diagram_no_other of_maps = refl

  pub diagram_put : AreOpposite (edit.TakeDiagram place) (edit.PutDiagram at d)
  diagram_put = record { put = diagram_put_taken; taken = diagram_no_other }

  pub diagram_taken : AreOpposite (edit.PutDiagram at d) (edit.TakeDiagram place)
  diagram_taken = record { put = λ k. sym (diagram_no_other k); taken = λ k. sym (diagram_put_taken k) }

module _ (place at : ℕ) (m : NamedMap) where
  map_put_taken : (k : Kind) → puts k (edit.PutMap at m) ≡ takes k (edit.TakeMap place)
  map_put_taken of_generators = refl
  map_put_taken of_diagrams = refl
  map_put_taken of_maps = refl

  map_no_other : (k : Kind) → takes k (edit.PutMap at m) ≡ puts k (edit.TakeMap place)
  map_no_other of_generators = refl
  map_no_other of_diagrams = refl
  map_no_other of_maps = refl

  pub map_put : AreOpposite (edit.TakeMap place) (edit.PutMap at m)
  map_put = record { put = map_put_taken; taken = map_no_other }

  pub map_taken : AreOpposite (edit.PutMap at m) (edit.TakeMap place)
  map_taken = record { put = λ k. sym (map_no_other k); taken = λ k. sym (map_put_taken k) }

pub opposite_forth : (e i : Edit) → LeadsBack e → AreOpposite e i → LeadsForth i
opposite_forth e i h o = let t = o.taken of_generators in omega arith

pub opposite_back : (e i : Edit) → LeadsForth e → AreOpposite e i → LeadsBack i
opposite_back e i h o = let p = o.put of_generators in omega arith

-- ---- how many things of a kind

abbrev pub held : Kind → Lists → ℕ
held of_generators l = length l.generators
held of_diagrams l = length l.diagrams
held of_maps l = length l.maps

pub held_after : (k : Kind) (l : Lists) (e : Edit) → IsWithin l e → held k (edited l e) + takes k e ≡ held k l + puts k e
held_after of_generators l edit.TakeGenerator w = let n = length-take (length l.generators - 1) l.generators in omega arith
held_after of_generators l (edit.PutGenerator g m) w = let n = length_push l.generators g in omega arith
held_after of_generators l (edit.TakeDiagram place) w = refl
held_after of_generators l (edit.PutDiagram place d) w = refl
held_after of_generators l (edit.TakeMap place) w = refl
held_after of_generators l (edit.PutMap place m) w = refl
held_after of_diagrams l edit.TakeGenerator w = refl
held_after of_diagrams l (edit.PutGenerator g m) w = refl
held_after of_diagrams l (edit.TakeDiagram place) w = let n = length-remove l.diagrams place w in omega arith
held_after of_diagrams l (edit.PutDiagram place d) w = let n = length-insert l.diagrams place d w in omega arith
held_after of_diagrams l (edit.TakeMap place) w = refl
held_after of_diagrams l (edit.PutMap place m) w = refl
held_after of_maps l edit.TakeGenerator w = refl
held_after of_maps l (edit.PutGenerator g m) w = refl
held_after of_maps l (edit.TakeDiagram place) w = refl
held_after of_maps l (edit.PutDiagram place d) w = refl
held_after of_maps l (edit.TakeMap place) w = let n = length-remove l.maps place w in omega arith
held_after of_maps l (edit.PutMap place m) w = let n = length-insert l.maps place m w in omega arith

-- what the lists hold and what the edits put, taken together, stays
pub balanced : (k : Kind) (l : Lists) (e i : Edit) → IsWithin l e → AreOpposite e i → held k (edited l e) + puts k i ≡ held k l + puts k e
balanced k l e i w o = let h = held_after k l e w in let p = o.put k in omega arith

-- ---- how many things edits put

pub total_put-push : (k : Kind) (es : List Edit) (e : Edit) → total_put k (es ++ e ∷ []) ≡ total_put k es + puts k e
total_put-push k [] e = omega arith
total_put-push k (f ∷ es) e = let h = total_put-push k es e in omega arith

puts_one : (k : Kind) (e : Edit) → puts k e ≤ 1
puts_one of_generators (edit.PutGenerator g m) = omega arith
puts_one of_diagrams (edit.PutDiagram place d) = omega arith
puts_one of_maps (edit.PutMap place m) = omega arith
puts_one k e = omega arith

pub total_put-le : (k : Kind) (es : List Edit) → total_put k es ≤ length es
total_put-le k [] = omega arith
total_put-le k (e ∷ es) = let h = total_put-le k es in let one = puts_one k e in omega arith
