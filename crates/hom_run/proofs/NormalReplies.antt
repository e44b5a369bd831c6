-- What `normalise` says of a document.
use Rattle.std.proofs.Common.{◌≡◌, ℕ, List, [], ◌∷◌, length, Bool, true, false, Option, Some, None, Result, Ok, Err, IfOk, refl, sym, ap, subst, ◌∙◌, arith}
use Rattle.std.specs.Prelude.{bytes_eq, if◌then◌else◌, option_map}
use Rattle.std.specs.List.{All, find}
use Rattle.std.proofs.lemmas.List.Elements.{All-head, All-tail}
use Rattle.diagram_terms.specs.declared.node.Node.{Node}
use Rattle.diagram_terms.specs.declared.place.Fault.TheVariants as fault
use Rattle.diagram_terms.specs.declared.place.Place.{Place}
use Rattle.diagram_terms.specs.FaultsOnTrees.{diagram_fault}
use Rattle.diagram_terms.specs.Tree.{Tree}
use Rattle.hashcons.specs.Contents.{Contents, Grows, IsDiagramOf, diagram_at}
use Rattle.node_json.specs.declared.document.Document.{Document}
use Rattle.node_json.specs.declared.document.MapEntry.{MapEntry}
use Rattle.node_json.specs.Documents.{IsDocument, IsMapEntry}
use Rattle.session_undo.specs.NormalForms.{maps_called}
use Rattle.session_undo.proofs.StoredMaps.{called_kept}
use Rattle.workspace_lists.specs.Held.{IsMapOf, map_called}
use Rattle.workspace_json.specs.declared.refusal.Refusal.TheVariants.{IllTyped}
use Rattle.workspace_json.specs.declared.reply.Reply.{Reply}
use Rattle.workspace_json.specs.declared.reply.Reply.TheVariants.{Refused}
use Rattle.workspace_json.specs.Maps.{NamedMap, map_place}
use Rattle.workspace_json.specs.NormalSteps.{NormalTrees, normal_reply, normal_trees}
use Rattle.workspace_json.specs.Steps.{◌>>=◌, no_fault, reply_of}
use Rattle.zigzag_maps.specs.declared.map.Map.{Map}
use Rattle.hom_run.specs.declared.normal.MapPlaces.{MapPlaces}
use Rattle.hom_run.specs.Full.{diagram_normal, map_normal, map_of}
use Rattle.hom_run.specs.Named.{places_in}

-- what follows in each case
IfOk-map : {T E : Type 0} (r : Result T E) (P Q : T → Type 0) → ((x : T) → P x → Q x) → IfOk r P → IfOk r Q
IfOk-map (Ok x) P Q f p = f x p
IfOk-map (Err e) P Q f p = p

-- ---- a diagram, and a map

pub diagram_passes : (name : List ℕ) (t : Tree) → diagram_fault t ≡ None → normal_reply name (normal_trees t []) ≡ diagram_normal name t
diagram_passes name t e = rw e refl

pub diagram_fails : (name : List ℕ) (t : Tree) (p : Place) → diagram_fault t ≡ Some p → Refused (IllTyped (fault.SquareAt p)) ≡ diagram_normal name t
diagram_fails name t p e = rw e refl

pub map_passes : (name : List ℕ) (m : NamedMap) → map_place m ≡ None → normal_reply name (normal_trees m.target (m ∷ [])) ≡ map_normal name m
map_passes name m e = rw e refl

pub map_fails : (name : List ℕ) (m : NamedMap) (p : Place) → map_place m ≡ Some p → Refused (IllTyped (fault.SquareAt p)) ≡ map_normal name m
map_fails name m p e = rw e refl

-- a reply that tells a normal form over a store tells that of the trees
pub as_told : {E : Type 0} (r : Result Reply E) (name said : List ℕ) (x : NormalTrees) (y : List (List ℕ) → NormalTrees) (len : ℕ) → said ≡ name
    → IfOk r (λ reply. reply ≡ normal_reply said x) → ((names : List (List ℕ)) → length names ≡ len → x ≡ y names)
    → IfOk r (λ reply. (names : List (List ℕ)) → length names ≡ len → reply ≡ normal_reply name (y names))
as_told (Ok reply) name said x y len e is same = λ names l. is ∙ (λ i. normal_reply (e i) (same names l i))
as_told (Err e) name said x y len p is same = is

module _ {E : Type 0} (r : Result Reply E) (old mid : Contents) (g : Grows old mid) where
  pub none_told : (d : ℕ) → IsDiagramOf old d → (name : List ℕ) → diagram_fault (diagram_at old d) ≡ None
      → IfOk r (λ reply. (names : List (List ℕ)) → length names ≡ 0 → reply ≡ normal_reply name (normal_trees (diagram_at mid d) (maps_called mid names [])))
      → IfOk r (λ reply. reply ≡ diagram_normal name (diagram_at old d))
  none_told d of name e told =
      IfOk-map r _ _ (λ reply is. is [] refl ∙ ap (λ t. normal_reply name (normal_trees t [])) (g.diagram_trees d of) ∙ diagram_passes name (diagram_at old d) e) told

  pub one_told : (m : Map) → IsMapOf old m → (name : List ℕ) → map_place (map_called old name m) ≡ None
      → IfOk r (λ reply. (names : List (List ℕ)) → length names ≡ 1 → reply ≡ normal_reply name (normal_trees (diagram_at mid m.target) (maps_called mid names (m ∷ []))))
      → IfOk r (λ reply. reply ≡ map_normal name (map_called old name m))
  one_told m of name e told =
      let kept = called_kept old mid m g of name in
      IfOk-map r _ _
      (λ reply is. is (name ∷ []) refl ∙ (λ i. let x : NamedMap = kept i in normal_reply name (normal_trees x.target (x ∷ []))) ∙ map_passes name (map_called old name m) e) told

-- ---- the map of a name

module _ (nodes : List Node) (name : List ℕ) where
  pick : {P : MapEntry → Type 0} (b : Bool) (x : MapEntry) (found : Option MapEntry) → P x → ((e : MapEntry) → found ≡ Some e → P e)
      → (e : MapEntry) → (if b then Some x else found) ≡ Some e → P e
  pick {P = P} true x found here more e is = let same : x ≡ e = cc in subst P same here
  pick false x found here more e is = more e is

  found_entry : (entries : List MapEntry) → All (IsMapEntry nodes) entries → (e : MapEntry) → map_of name entries ≡ Some e → IsMapEntry nodes e
  found_entry [] all e is = cc
  found_entry (x ∷ xs) all e is =
      pick (bytes_eq x.name name) x (find (λ y. bytes_eq y.name name) xs) (All-head (IsMapEntry nodes) x xs all) (found_entry xs (All-tail (IsMapEntry nodes) x xs all)) e is

-- the entry behind the places
pub record HasEntry (document : Document) (name : List ℕ) (places : MapPlaces) : Type 0 where
  pub entry : MapEntry
  pub found : map_of name document.maps ≡ Some entry
  pub places_are : places ≡ places_in entry
  pub is_entry : IsMapEntry document.nodes entry

entry_behind : (found : Option MapEntry) (places : MapPlaces) → Some places ≡ option_map places_in found → (e : MapEntry) × (found ≡ Some e) × (places ≡ places_in e)
entry_behind None places is = cc
entry_behind (Some e) places is = (e, refl, cc)

pub entry_of : (document : Document) → IsDocument document → (name : List ℕ) (found : Option MapPlaces) (places : MapPlaces)
    → found ≡ option_map places_in (map_of name document.maps) → found ≡ Some places → HasEntry document name places
entry_of document form name found places is some =
    let b = entry_behind (map_of name document.maps) places (sym some ∙ is) in
    record { entry = b.0; found = b.1; places_are = b.2; is_entry = found_entry document.nodes name document.maps form.maps b.0 b.1 }
