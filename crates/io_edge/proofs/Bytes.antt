-- Pieces of bytes, one after the other.
use Rattle.std.proofs.Common.{◌≡◌, ℕ, ◌+◌, ◌-◌, ◌≤◌, ◌<◌, min, Option, List, [], ◌++◌, length, take, drop, sym, ap, subst, ◌∙◌, take-append-drop, arith}
use Rattle.std.proofs.lemmas.List.{take_at, drop-drop, drop_all, length-take, length-drop, take_rest}
use Rattle.std.proofs.Math.Seq.{take-add}
use Rattle.std.proofs.KnownBytes.{Appends-trans, Appends-kept}
use Rattle.std.specs.Io.KnownBytes.{Appends, Keeps}
use Rattle.io_edge.specs.Transfers.{AppendsPrefix, AppendsLess}

-- what is left after the first n of what is left
pub drop_split : (xs : List ℕ) (at n : ℕ) → drop at xs ≡ take n (drop at xs) ++ drop (at + n) xs
drop_split xs at n =
    sym (take-append-drop n (drop at xs))
    ∙ ap (λ (l : List ℕ). take n (drop at xs) ++ l) (drop-drop n at xs)

-- a buffer whose front was written with what comes next
pub served : (xs into rest written : List ℕ) (at n : ℕ)
    → written ≡ take n (take (length xs - at) (drop at xs))
    → n ≡ min (length into) (length xs - at)
    → drop at xs ≡ take n (written ++ rest) ++ drop (at + n) xs
served xs into rest written at n is count =
    let whole : take (length xs - at) (drop at xs) ≡ drop at xs = take_rest xs at in
    let front : written ≡ take n (drop at xs) = is ∙ ap (take n) whole in
    let long : length written ≡ n =
    ap length front ∙ length-take n (drop at xs) ∙ omega (arith, length-drop at xs) in
    drop_split xs at n
    ∙ ap (λ (l : List ℕ). l ++ drop (at + n) xs) (sym front ∙ sym (take_at written rest n long))

-- nothing was served only where nothing was left
pub none_served : (xs into buffer : List ℕ) (at n : ℕ)
    → n ≡ min (length into) (length xs - at)
    → length buffer ≡ length into
    → n ≡ 0 → 0 < length buffer → drop (at + n) xs ≡ []
none_served xs into buffer at n count long none room = drop_all (at + n) xs (omega arith)

-- a piece's first bytes, and then some more of them
pub appended_more : (a b c : Option (List ℕ)) (piece : List ℕ) (at n : ℕ)
    → n ≤ length piece - at
    → Appends a b (take at piece)
    → Appends b c (take n (take (length piece - at) (drop at piece)))
    → Appends a c (take (at + n) piece)
appended_more a b c piece at n fits before more =
    let part : take n (take (length piece - at) (drop at piece)) ≡ take n (drop at piece) =
    ap (take n) (take_rest piece at) in
    subst (Appends a c) (sym (take-add at n piece))
    (Appends-trans a b c _ _ before (subst (Appends b c) part more))

-- a write that took nothing more left a prefix
pub left_prefix : (a b c : Option (List ℕ)) (piece : List ℕ) (at : ℕ)
    → Appends a b (take at piece) → Keeps b c → AppendsPrefix a c piece
left_prefix a b c piece at before kept = record {
  part = take at piece;
  rest = drop at piece;
  whole = take-append-drop at piece;
  appended = Appends-kept a b c _ before kept;
}

-- and not the whole piece, where some of it was left
pub left_less : (a b c : Option (List ℕ)) (piece : List ℕ) (at : ℕ)
    → at < length piece → Appends a b (take at piece) → Keeps b c → AppendsLess a c piece
unfolding left_prefix
left_less a b c piece at within before kept = record {
  prefix = left_prefix a b c piece at before kept;
  more =
      let left : 0 < length (drop at piece) = omega (arith, length-drop at piece) in
      left;
}
