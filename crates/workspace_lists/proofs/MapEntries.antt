-- The entries of maps, one more.
use Rattle.std.proofs.Common.{◌≡◌, ◌∙◌, ℕ, ◌+◌, ◌<◌, ◌≤◌, List, [], ◌∷◌, ◌++◌, length, get_or, map, take, refl, sym, ap, arith}
use Rattle.std.proofs.lemmas.List.{append-nil, length-append, take_more, map_more, get_or-map}
use Rattle.std.proofs.lemmas.List.Concat.{flat_map-append, get_or-flat_map}
use Rattle.std.proofs.lemmas.List.Folds.{length-flat_map-take}
use Rattle.hashcons.specs.declared.id.AnyId.{AnyId}
use Rattle.hashcons.specs.declared.id.AnyId.TheVariants as id
use Rattle.node_json.specs.declared.document.MapEntry.{MapEntry}
use Rattle.workspace_lists.specs.Roots.{entry_from, map_entry_at, map_ids, part_ids}
use Rattle.workspace_lists.specs.declared.workspace.NamedMap.{NamedMap}

-- the ids of the maps before one, and of this one
pub part_ids-more : (ms : List NamedMap) (i : ℕ) (d : NamedMap) → i < length ms → part_ids (take (i + 1) ms) ≡ part_ids (take i ms) ++ map_ids (get_or ms i d)
part_ids-more ms i d l =
    ap part_ids (take_more ms i d l) ∙ flat_map-append map_ids (take i ms) (get_or ms i d ∷ [])
    ∙ ap (λ xs. part_ids (take i ms) ++ xs) (append-nil (map_ids (get_or ms i d)))

pub part_ids-length_more : (ms : List NamedMap) (i : ℕ) (d : NamedMap) → i < length ms → length (part_ids (take i ms)) + 3 ≡ length (part_ids (take (i + 1) ms))
part_ids-length_more ms i d l = sym (ap length (part_ids-more ms i d l) ∙ length-append (part_ids (take i ms)) (map_ids (get_or ms i d)))

pub part_ids-within : (ms : List NamedMap) (i : ℕ) (d : NamedMap) → i < length ms → length (part_ids (take i ms)) + 3 ≤ length (part_ids ms)
part_ids-within ms i d l = length-flat_map-take map_ids ms i d l

module _ (place : AnyId → ℕ) where
  place_read : (ms : List NamedMap) (i j n : ℕ) (d : NamedMap) (x : AnyId) → i < length ms → j < 3 → get_or (map_ids (get_or ms i d)) j (id.Diagram 0) ≡ x
      → n ≡ length (part_ids (take i ms)) + j → get_or (map place (part_ids ms)) n 0 ≡ place x
  place_read ms i j n d x l few is at =
      let k = part_ids-within ms i d l in
      ap (λ n. get_or (map place (part_ids ms)) n 0) at
      ∙ get_or-map place (part_ids ms) (length (part_ids (take i ms)) + j) (id.Diagram 0) 0 (omega arith)
      ∙ ap place (get_or-flat_map map_ids ms i j d (id.Diagram 0) l few ∙ is)

  pub maps-more : (ms : List NamedMap) (i at : ℕ) (m : NamedMap) (places : List ℕ) (entries : List MapEntry) (name : List ℕ) (entry : MapEntry)
      → i < length ms → m ≡ get_or ms i m → at ≡ length (part_ids (take i ms)) → places ≡ map place (part_ids ms)
      → entries ≡ map (map_entry_at place) (take i ms) → name ≡ m.name → entry ≡ entry_from places at name
      → entries ++ entry ∷ [] ≡ map (map_entry_at place) (take (i + 1) ms)
  maps-more ms i at m places entries name entry l is start are so_far names read =
      let n : NamedMap = get_or ms i m in
      let s : get_or places at 0 ≡ place (id.Diagram n.map.source) = ap (λ ps. get_or ps at 0) are ∙ place_read ms i 0 at m (id.Diagram n.map.source) l (omega arith) refl (omega arith) in
      let t : get_or places (at + 1) 0 ≡ place (id.Diagram n.map.target) = ap (λ ps. get_or ps (at + 1) 0) are ∙ place_read ms i 1 (at + 1) m (id.Diagram n.map.target) l (omega arith) refl (omega arith) in
      let a : get_or places (at + 2) 0 ≡ place (id.Arrow n.map.arrow) = ap (λ ps. get_or ps (at + 2) 0) are ∙ place_read ms i 2 (at + 2) m (id.Arrow n.map.arrow) l (omega arith) refl (omega arith) in
      let known : name ≡ n.name = names ∙ ap (λ (x : NamedMap). x.name) is in
      let same : entry ≡ map_entry_at place n = read ∙ (λ k. let e : MapEntry = record { name = known k; source = s k; target = t k; arrow = a k } in e) in
      (λ k. so_far k ++ same k ∷ []) ∙ sym (map_more (map_entry_at place) ms i m l)

-- three more places are there
pub places-within : (ms : List NamedMap) (i at : ℕ) (m : NamedMap) (places : List ℕ) → i < length ms → at ≡ length (part_ids (take i ms)) → length places ≡ length (part_ids ms)
    → at + 3 ≤ length places
places-within ms i at m places l start len = let k = part_ids-within ms i m l in omega arith
