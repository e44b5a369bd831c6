-- Two lists made by one function, compared from the front on.
use Rattle.std.proofs.Common.{◌≡◌, ℕ, ◌+◌, ◌<◌, ◌≤◌, length, List, map, take, get_or, sym, ◌∙◌, ap, arith}
use Rattle.std.proofs.lemmas.List.{take_more_same, take_all, get_or-map, length-map, get_or_read}

module _ {X Y : Type 0} (f : X → Y) where
  pub same_front_more : (xs ys : List X) (i : ℕ) (d : X) → i < length xs → i < length ys → take i (map f xs) ≡ take i (map f ys)
      → f (get_or xs i d) ≡ f (get_or ys i d) → take (i + 1) (map f xs) ≡ take (i + 1) (map f ys)
  same_front_more xs ys i d lx ly e h =
      let ex = length-map xs f in
      let ey = length-map ys f in
      take_more_same (map f xs) (map f ys) i (f d) (omega arith) (omega arith) e (get_or-map f xs i d (f d) lx ∙ h ∙ sym (get_or-map f ys i d (f d) ly))

  pub same_all : (xs ys : List X) (i : ℕ) → length xs ≤ i → length ys ≤ i → take i (map f xs) ≡ take i (map f ys) → map f xs ≡ map f ys
  same_all xs ys i lx ly e =
      let ex = length-map xs f in
      let ey = length-map ys f in
      sym (take_all i (map f xs) (omega arith)) ∙ e ∙ take_all i (map f ys) (omega arith)

  pub same_at : (xs ys : List X) (i : ℕ) (d : X) → i < length xs → i < length ys → map f xs ≡ map f ys → f (get_or xs i d) ≡ f (get_or ys i d)
  same_at xs ys i d lx ly e = sym (get_or-map f xs i d (f d) lx) ∙ ap (λ zs. get_or zs i (f d)) e ∙ get_or-map f ys i d (f d) ly

  -- the same, with the elements as a read gives them
  pub same_step : (xs ys : List X) (i : ℕ) (x y : X) → i < length xs → length xs ≡ length ys → x ≡ get_or xs i x → y ≡ get_or ys i y
      → take i (map f xs) ≡ take i (map f ys) → f x ≡ f y → take (i + 1) (map f xs) ≡ take (i + 1) (map f ys)
  same_step xs ys i x y l n ex ey e h =
      same_front_more xs ys i x l (omega arith) e (ap f (sym ex) ∙ h ∙ ap f (get_or_read ys i y (omega arith) ey x))

  pub same_there : (xs ys : List X) (i : ℕ) (x y : X) → i < length xs → length xs ≡ length ys → x ≡ get_or xs i x → y ≡ get_or ys i y
      → map f xs ≡ map f ys → f x ≡ f y
  same_there xs ys i x y l n ex ey e = ap f ex ∙ same_at xs ys i x l (omega arith) e ∙ ap f (sym (get_or_read ys i y (omega arith) ey x))
