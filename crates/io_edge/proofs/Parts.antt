-- A text that is written part by part.
use Rattle.std.proofs.Common.{◌≡◌, ℕ, List, [], ◌++◌, Option, refl, sym, ap, ◌∙◌, subst, append_assoc, append-nil}
use Rattle.std.specs.Io.KnownBytes.{Appends}
use Rattle.std.proofs.KnownBytes.{Appends-nil, Appends-trans}
use Rattle.io_edge.specs.Transfers.{AppendsPrefix}

-- A part was appended, and this is left of the text.
pub record IsUnderWay (old now : Option (List ℕ)) (left text : List ℕ) : Type 0 where
  pub part : List ℕ
  pub appended : Appends old now part
  pub whole : part ++ left ≡ text

pub begun : (old : Option (List ℕ)) (text : List ℕ) → IsUnderWay old old text text
begun old text = record { part = []; appended = Appends-nil old; whole = refl }

pub one_more : (old now new : Option (List ℕ)) (piece left text : List ℕ)
    → Appends now new piece → IsUnderWay old now (piece ++ left) text → IsUnderWay old new left text
one_more old now new piece left text more so_far = record {
  part = so_far.part ++ piece;
  appended = Appends-trans old now new _ _ so_far.appended more;
  whole = append_assoc so_far.part piece left ∙ so_far.whole;
}

pub ended : (old now : Option (List ℕ)) (text : List ℕ) → IsUnderWay old now [] text → Appends old now text
ended old now text so_far =
    subst (Appends old now) (sym (append-nil so_far.part) ∙ so_far.whole) so_far.appended

-- stopped in the midst of a piece
pub cut_off : (old now new : Option (List ℕ)) (piece left text : List ℕ)
    → AppendsPrefix now new piece → IsUnderWay old now (piece ++ left) text → AppendsPrefix old new text
cut_off old now new piece left text cut so_far = record {
  part = so_far.part ++ cut.part;
  rest = cut.rest ++ left;
  whole =
      let piece_is : cut.part ++ (cut.rest ++ left) ≡ piece ++ left =
      sym (append_assoc cut.part cut.rest left) ∙ ap (λ (l : List ℕ). l ++ left) cut.whole in
      append_assoc so_far.part cut.part (cut.rest ++ left)
      ∙ ap (λ (l : List ℕ). so_far.part ++ l) piece_is
      ∙ so_far.whole;
  appended = Appends-trans old now new _ _ so_far.appended cut.appended;
}

-- stopped between two pieces
pub stopped : (old now : Option (List ℕ)) (left text : List ℕ)
    → IsUnderWay old now left text → AppendsPrefix old now text
stopped old now left text so_far = record {
  part = so_far.part;
  rest = left;
  whole = so_far.whole;
  appended = so_far.appended;
}

-- stopped before the first piece
pub not_begun : (old : Option (List ℕ)) (text : List ℕ) → AppendsPrefix old old text
not_begun old text = stopped old old text text (begun old text)
