-- How the ids of a listing grow, one visit after the other.
use Rattle.std.proofs.Common.{◌≡◌, ℕ, suc, ◌+◌, ◌<◌, Bool, true, false, ◌||◌, List, [], ◌∷◌, ◌++◌, length, take, get_or, refl, sym, ap, subst, ◌∙◌, arith, ◌⊎◌, inl, inr, if◌then◌else◌}
use Rattle.std.specs.Bool.{Decides}
use Rattle.std.specs.List.{list_any, flat_map}
use Rattle.std.proofs.lemmas.Bool.{cond-true, cond-false}
use Rattle.std.proofs.lemmas.Bool.Decides.{same_from_decides}
use Rattle.std.proofs.lemmas.Grind.{flat_map-append}
use Rattle.std.proofs.lemmas.List.{length_push, get_or_append_left, get_or_push, map-append, take_more, append-nil, get_or_read}
use Rattle.diagram_terms.specs.Tree.{Tree, nil}
use Rattle.diagram_terms.specs.Completion.{children, completions, same_tree, numbered, all_numbered, ComesAfterChildren}
use Rattle.diagram_terms.specs.Nodes.{picked}
use Rattle.diagram_terms.proofs.Completions.{AllIn, found_in, same_tree_decides, all_numbered-append, in-all_numbered, after-numbered, visit-there, diagram_completions, arrow_completions}
use Rattle.diagram_terms.proofs.Printing.{roots_in}
use Rattle.hashcons.specs.declared.id.AnyId.{AnyId}
use Rattle.hashcons.specs.declared.id.AnyId.TheVariants as id
use Rattle.hashcons.specs.Contents.{Contents, IsStore, diagram_at, arrow_at}
use Rattle.hashcons.specs.Ids.{IsOf, tree_of, id_at}
use Rattle.hashcons.specs.Listing.{AreOf, listed, IsListing, Visits}
use Rattle.hashcons.specs.EqualIds.{id_eq}
use Rattle.hashcons.proofs.IdsOfTrees.{id_decides, same_iff}

-- ---- lists of ids of a store

pub are_of-tail : (c : Contents) (x : AnyId) (ids : List AnyId) → AreOf c (x ∷ ids) → AreOf c ids
are_of-tail c x ids h = record { of_store = λ i l. h.of_store (suc i) (omega arith) }

are_of-push : (c : Contents) (ids : List AnyId) (x : AnyId) → AreOf c ids → IsOf c x → AreOf c (ids ++ x ∷ [])
are_of-push c ids x h p = record { of_store = λ i l. by i (cut i l) }
  where
    cut : (i : ℕ) → i < length (ids ++ x ∷ []) → (i < length ids) ⊎ (length ids ≡ i)
    cut i l = let n = length_push ids x in grind arith

    by : (i : ℕ) → (i < length ids) ⊎ (length ids ≡ i) → IsOf c (id_at (ids ++ x ∷ []) i)
    by i (inl q) = subst (IsOf c) (sym (get_or_append_left ids (x ∷ []) (id.Diagram 0) i q)) (h.of_store i q)
    by i (inr q) = subst (IsOf c) (sym (get_or_push ids x (id.Diagram 0) i q)) p

-- the test of ids tells trees apart
same_tests : (c : Contents) → IsStore c → (x y : AnyId) → IsOf c x → IsOf c y
    → id_eq x y ≡ same_tree (tree_of c x) (tree_of c y)
same_tests c store x y p q =
    let i = same_iff c store x y p q in
    let d = id_decides x y in
    let e : Decides (id_eq x y) (tree_of c x ≡ tree_of c y) = (λ h. i.0 (d.0 h), λ h. d.1 (i.1 h)) in
    same_from_decides (id_eq x y) (same_tree (tree_of c x) (tree_of c y)) e (same_tree_decides (tree_of c x) (tree_of c y))

same_found : (c : Contents) → IsStore c → (x : AnyId) → IsOf c x → (ids : List AnyId) → AreOf c ids
    → list_any (id_eq x) ids ≡ list_any (same_tree (tree_of c x)) (listed c ids)
same_found c store x p [] h = refl
same_found c store x p (y ∷ ids) h =
    let a = same_tests c store x y p (h.of_store 0 (omega arith)) in
    let b = same_found c store x p ids (are_of-tail c y ids h) in
    λ i. a i || b i

-- the ids after one was inserted
abbrev inserted : List AnyId → AnyId → List AnyId
inserted ids x = if list_any (id_eq x) ids then ids else ids ++ x ∷ []

listed-inserted : (c : Contents) → IsStore c → (x : AnyId) → IsOf c x → (ids : List AnyId) → AreOf c ids
    → listed c (inserted ids x) ≡ numbered (listed c ids) (tree_of c x)
listed-inserted c store x p ids h = by (list_any (id_eq x) ids) refl
  where
    by : (b : Bool) → list_any (id_eq x) ids ≡ b → listed c (inserted ids x) ≡ numbered (listed c ids) (tree_of c x)
    by true e =
        ap (listed c) (cond-true (list_any (id_eq x) ids) ids (ids ++ x ∷ []) e)
        ∙ sym (cond-true (list_any (same_tree (tree_of c x)) (listed c ids)) (listed c ids)
        (listed c ids ++ tree_of c x ∷ []) (sym (same_found c store x p ids h) ∙ e))
    by false e =
        ap (listed c) (cond-false (list_any (id_eq x) ids) ids (ids ++ x ∷ []) e) ∙ map-append (tree_of c) ids (x ∷ [])
        ∙ sym (cond-false (list_any (same_tree (tree_of c x)) (listed c ids)) (listed c ids)
        (listed c ids ++ tree_of c x ∷ []) (sym (same_found c store x p ids h) ∙ e))

inserted-of : (c : Contents) (x : AnyId) → IsOf c x → (ids : List AnyId) → AreOf c ids → AreOf c (inserted ids x)
inserted-of c x p ids h = by (list_any (id_eq x) ids) refl
  where
    by : (b : Bool) → list_any (id_eq x) ids ≡ b → AreOf c (inserted ids x)
    by true e = subst (AreOf c) (sym (cond-true (list_any (id_eq x) ids) ids (ids ++ x ∷ []) e)) h
    by false e = subst (AreOf c) (sym (cond-false (list_any (id_eq x) ids) ids (ids ++ x ∷ []) e)) (are_of-push c ids x h p)

-- ---- visits

pub visits-none : (c : Contents) (ids : List AnyId) → IsListing c ids → Visits c ids ids []
visits-none c ids h = record { listing = h; trees = refl }

pub visits-append : (c : Contents) (old mid new : List AnyId) (ts us : List Tree) → Visits c old mid ts
    → Visits c mid new us → Visits c old new (ts ++ us)
visits-append c old mid new ts us h k = record {
  listing = k.listing;
  trees = k.trees ∙ ap (λ vs. all_numbered vs us) h.trees ∙ sym (all_numbered-append (listed c old) ts us);
}

completions-node : (c : Contents) → IsStore c → (x : AnyId) → IsOf c x
    → completions (tree_of c x) ≡ flat_map completions (children (tree_of c x)) ++ tree_of c x ∷ []
completions-node c store (id.Diagram d) p = diagram_completions (diagram_at c d) (store.diagrams d p)
completions-node c store (id.Arrow a) p = arrow_completions (arrow_at c a) (store.arrows a p)

-- an id that is there
pub visits-there : (c : Contents) → IsStore c → (x : AnyId) → IsOf c x → (ids : List AnyId) → IsListing c ids
    → list_any (id_eq x) ids ≡ true → Visits c ids ids (completions (tree_of c x))
visits-there c store x p ids h e = record {
  listing = h;
  trees = sym (visit-there (listed c ids) (tree_of c x) h.after
      (found_in (listed c ids) (tree_of c x) (sym (same_found c store x p ids h.of_store) ∙ e)));
}

-- an id that is completed once its children are
pub visits-insert : (c : Contents) → IsStore c → (x : AnyId) → IsOf c x → (old mid new : List AnyId)
    → Visits c old mid (flat_map completions (children (tree_of c x)))
    → new ≡ inserted mid x → Visits c old new (completions (tree_of c x))
visits-insert c store x p old mid new h e =
    let t = tree_of c x in
    let ts = flat_map completions (children t) in
    let l = ap (listed c) e ∙ listed-inserted c store x p mid h.listing.of_store in
    let there : AllIn (listed c mid) (children t) = roots_in (listed c mid) (children t)
    (subst (λ us. AllIn us ts) (sym h.trees) (in-all_numbered (listed c old) ts)) in
    record {
      listing = record {
        of_store = subst (AreOf c) (sym e) (inserted-of c x p mid h.listing.of_store);
        after = subst ComesAfterChildren (sym l) (after-numbered (listed c mid) t h.listing.after there);
      };
      trees =
          l ∙ ap (λ us. numbered us t) h.trees ∙ sym (all_numbered-append (listed c old) ts (t ∷ []))
          ∙ sym (ap (all_numbered (listed c old)) (completions-node c store x p));
    }

-- one id more of a list
pub completions-more : (trees : List Tree) (ids : List ℕ) (i : ℕ) → i < length ids
    → flat_map completions (picked trees (take (i + 1) ids)) ≡ flat_map completions
    (picked trees (take i ids)) ++ completions (get_or trees (get_or ids i 0) nil)
completions-more trees ids i l =
    let u = get_or trees (get_or ids i 0) nil in
    ap (λ is. flat_map completions (picked trees is)) (take_more ids i 0 l)
    ∙ ap (flat_map completions) (map-append (λ j. get_or trees j nil) (take i ids) (get_or ids i 0 ∷ []))
    ∙ flat_map-append completions (picked trees (take i ids)) (u ∷ []) ∙ ap
    (λ vs. flat_map completions (picked trees (take i ids)) ++ vs) (append-nil (completions u))

-- the visit to one id more of a list, as a loop reads it
pub visits-more : (c : Contents) (trees : List Tree) (old mid new : List AnyId) (ids : List ℕ) (i x : ℕ) → i < length ids
    → x ≡ get_or ids i x
    → Visits c old mid (flat_map completions (picked trees (take i ids))) → Visits c mid new
    (completions (get_or trees x nil))
    → Visits c old new (flat_map completions (picked trees (take (i + 1) ids)))
visits-more c trees old mid new ids i x l read h k =
    let e : completions (get_or trees x nil) ≡ completions (get_or trees (get_or ids i 0) nil) = ap
    (λ j. completions (get_or trees j nil)) (get_or_read ids i x l read 0) in
    subst (Visits c old new) (sym (completions-more trees ids i l))
    (visits-append c old mid new (flat_map completions (picked trees (take i ids))) _ h (subst (Visits c mid new) e k))
