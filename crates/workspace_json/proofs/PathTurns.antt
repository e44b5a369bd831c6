-- One turn of the loop that reads the steps of a path.
use Rattle.std.proofs.Common.{◌≡◌, ℕ, ◌+◌, ◌<◌, List, [], ◌∷◌, ◌++◌, length, drop, get_or, codes, true, false, Option, Some, None, refl, sym, ap, ◌∙◌, lit<, add-one, append_assoc, append-nil, drop-cons}
use Rattle.std.proofs.Math.Seq.{drop-length}
use Rattle.std.proofs.lemmas.Bool.{cond-false}
use Rattle.std.proofs.lemmas.Iterator.{YieldsList}
use Rattle.std.proofs.lemmas.Iterator.Splits.{YieldsList-from_str_split}
use Rattle.std.specs.declared.str.Split.{Split}
use Rattle.std.specs.Str.Iter.{split_steps, split_text, split_has_more, split_pattern}
use Rattle.std.specs.Str.Pattern.{FindsChar}
use Rattle.std.specs.List.{list_all}
use Rattle.std.specs.Prelude.{◌&&◌, bytes_eq, is_some, option_and_then, option_map}
use Rattle.diagram_terms.specs.declared.place.Height.{Height}
use Rattle.workspace_json.specs.Paths.{height_in, heights_in, steps_of, path_in}

-- the heights behind those that were read
abbrev pub read_behind : List Height → List (List ℕ) → Option (List Height)
read_behind path words = option_map (λ hs. path ++ hs) (heights_in words)

pub none_read : (path : List Height) (words : List (List ℕ)) → path ≡ [] → read_behind path words ≡ heights_in words
none_read path words empty = ap (λ p. read_behind p words) empty ∙ same (heights_in words) where
  same : (o : Option (List Height)) → option_map (λ hs. [] ++ hs) o ≡ o
  same None = refl
  same (Some hs) = refl

one_more : (path : List Height) (h : Height) (o : Option (List Height))
    → option_map (λ hs. path ++ hs) (option_map (λ hs. h ∷ hs) o) ≡ option_map (λ hs. (path ++ h ∷ []) ++ hs) o
one_more path h None = refl
one_more path h (Some hs) = ap (λ xs. Some xs) (sym (append_assoc path (h ∷ []) hs))

left : (steps : List (List ℕ)) (k : ℕ) (word : List ℕ) → (k < length steps) × (word ≡ get_or steps k word) → drop k steps ≡ word ∷ drop (k + 1) steps
left steps k word at = rw (drop-cons steps k word at.0, ← at.1, add-one) refl

module _ (steps : List (List ℕ)) (k : ℕ) (word : List ℕ) (path : List Height) (all : Option (List Height)) (at : (k < length steps) × (word ≡ get_or steps k word))
    (so_far : read_behind path (drop k steps) ≡ all) where
  -- one more height was read
  pub height_more : (h : Height) → height_in word ≡ Some h → read_behind (path ++ h ∷ []) (drop (k + 1) steps) ≡ all
  height_more h is =
      let next : read_behind path (word ∷ drop (k + 1) steps) ≡ option_map (λ hs. path ++ hs) (option_map (λ hs. h ∷ hs) (heights_in (drop (k + 1) steps))) = rw is refl in
      sym (one_more path h (heights_in (drop (k + 1) steps))) ∙ sym next ∙ ap (read_behind path) (sym (left steps k word at)) ∙ so_far

  -- the word is no height
  pub no_height : height_in word ≡ None → all ≡ None
  no_height is =
      let stops : read_behind path (word ∷ drop (k + 1) steps) ≡ None = rw is refl in
      sym so_far ∙ ap (read_behind path) (left steps k word at) ∙ stops

-- all words were read
pub all_read : (steps : List (List ℕ)) (k : ℕ) (path : List Height) (all : Option (List Height)) → k ≡ length steps → read_behind path (drop k steps) ≡ all → all ≡ Some path
all_read steps k path all at so_far =
    sym so_far ∙ ap (read_behind path) (ap (λ n. drop n steps) at ∙ drop-length steps) ∙ ap (λ xs. Some xs) (append-nil path)

-- a word that is not `.` is read by its steps
pub by_steps : (word : List ℕ) (path : Option (List Height)) → bytes_eq word (codes ".") ≡ false → heights_in (steps_of word) ≡ path → path_in word ≡ path
by_steps word path other steps = cond-false (bytes_eq word (codes ".")) (Some []) (heights_in (steps_of word)) other ∙ steps

-- the pieces between the commas come one by one
pub steps_come : (pieces start : Split ℕ) (word : List ℕ) → start ≡ pieces → split_text pieces ≡ word → split_has_more pieces ≡ true → split_pattern pieces ≡ 44
    → YieldsList (split_steps FindsChar (λ a b. b ≡ a)) (λ x. x.now) start (steps_of word)
steps_come pieces start word begins text more comma =
    YieldsList-from_str_split 44 word (lit< tt) (ap split_text begins ∙ text) (ap split_has_more begins ∙ more) (ap split_pattern begins ∙ comma)

-- each word is a height exactly if the words are heights
both_are : (first : Option Height) (rest : Option (List Height))
    → (is_some first && is_some rest) ≡ is_some (option_and_then (λ h. option_map (λ hs. h ∷ hs) rest) first)
both_are None rest = refl
both_are (Some h) None = refl
both_are (Some h) (Some hs) = refl

pub all_heights : (words : List (List ℕ)) → list_all (λ w. is_some (height_in w)) words ≡ is_some (heights_in words)
all_heights [] = refl
all_heights (w ∷ ws) = ap (λ b. is_some (height_in w) && b) (all_heights ws) ∙ both_are (height_in w) (heights_in ws)
