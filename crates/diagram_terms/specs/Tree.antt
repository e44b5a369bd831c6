-- One plain type for the trees of diagrams and arrows of every dimension, also of those of a wrong shape.
use Rattle.std.specs.Prelude.{◌≡◌, ℕ, List, [], ◌∷◌, map, refl}
use Rattle.std.specs.Coded.{Coded}
use Rattle.std.proofs.Common.{ap, sym, ◌∙◌}
use base.Stored.{Gv, gnil, gnum, gcons}
use Rattle.diagram_terms.specs.declared.label.Label.{Label}

-- nothing, a number, or a pair; a list of trees is a chain of pairs that ends in nothing
pub data Tree : Type 0 where
  nil : Tree
  num : ℕ → Tree
  pair : Tree → Tree → Tree

-- a tree as a stored value, and back: so a model may hold trees
abbrev pub to_stored : Tree → Gv
to_stored nil = gnil
to_stored (num n) = gnum n
to_stored (pair a b) = gcons (to_stored a) (to_stored b)

abbrev pub of_stored : Gv → Tree
of_stored gnil = nil
of_stored (gnum n) = num n
of_stored (gcons a b) = pair (of_stored a) (of_stored b)

pub of_stored-to_stored : (t : Tree) → of_stored (to_stored t) ≡ t
of_stored-to_stored nil = refl
of_stored-to_stored (num n) = refl
of_stored-to_stored (pair a b) = λ i. pair (of_stored-to_stored a i) (of_stored-to_stored b i)

pub to_stored-inj : (x y : Tree) → to_stored x ≡ to_stored y → x ≡ y
to_stored-inj x y p = sym (of_stored-to_stored x) ∙ ap of_stored p ∙ of_stored-to_stored y

abbrev pub coded_tree : Coded Tree
coded_tree = record { code = to_stored; inj = to_stored-inj }

abbrev pub first : Tree → Tree
first nil = nil
first (num n) = nil
first (pair a b) = a

abbrev pub second : Tree → Tree
second nil = nil
second (num n) = nil
second (pair a b) = b

abbrev pub number_in : Tree → ℕ
number_in nil = 0
number_in (num n) = n
number_in (pair a b) = 0

abbrev pub seq : List Tree → Tree
seq [] = nil
seq (t ∷ ts) = pair t (seq ts)

abbrev pub items : Tree → List Tree
items nil = []
items (num n) = []
items (pair a b) = a ∷ items b

pub items-seq : (ts : List Tree) → items (seq ts) ≡ ts
items-seq [] = refl
items-seq (t ∷ ts) = ap (λ us. t ∷ us) (items-seq ts)

abbrev pub label_tree : Label → Tree
label_tree x = pair (num x.number) (num x.dim)

abbrev pub label_in : Tree → Label
label_in t = record { number = number_in (first t); dim = number_in (second t) }

-- The four kinds of node. How a node is stored is known here alone: elsewhere only the laws below are used.

-- a diagram of dimension 0
unfoldable pub point : Label → Tree
point x = pair (num 0) (label_tree x)

-- a diagram of higher dimension: its regular and singular slices, and its legs forward and backward
unfoldable pub zig : List Tree → List Tree → List Tree → List Tree → Tree
zig rs ss fs bs = pair (num 1) (pair (seq rs) (pair (seq ss) (pair (seq fs) (seq bs))))

-- an arrow of dimension 0
unfoldable pub ends : Label → Label → Tree
ends x y = pair (num 2) (pair (label_tree x) (label_tree y))

-- an arrow of higher dimension: its heights, its regular and its singular slices
unfoldable pub zag : List ℕ → List Tree → List Tree → Tree
zag hs rs ss = pair (num 3) (pair (seq rs) (pair (seq ss) (seq (map num hs))))

-- which of the four it is
unfoldable pub kind : Tree → ℕ
kind t = number_in (first t)

-- the parts of a node; of a node of another kind they mean nothing
unfoldable pub label_at : Tree → Label
label_at t = label_in (second t)

unfoldable pub from_at : Tree → Label
from_at t = label_in (first (second t))

unfoldable pub to_at : Tree → Label
to_at t = label_in (second (second t))

unfoldable pub regs : Tree → List Tree
regs t = items (first (second t))

unfoldable pub sings : Tree → List Tree
sings t = items (first (second (second t)))

unfoldable pub fwds : Tree → List Tree
fwds t = items (first (second (second (second t))))

unfoldable pub bwds : Tree → List Tree
bwds t = items (second (second (second (second t))))

unfoldable pub heights : Tree → List ℕ
heights t = map number_in (items (second (second (second t))))

numbers-nums : (hs : List ℕ) → map number_in (map num hs) ≡ hs
numbers-nums [] = refl
numbers-nums (h ∷ hs) = ap (λ us. h ∷ us) (numbers-nums hs)

pub label_at-point : (x : Label) → label_at (point x) ≡ x
unfolding label_at point
label_at-point x = refl

pub from_at-ends : (x y : Label) → from_at (ends x y) ≡ x
unfolding from_at ends
from_at-ends x y = refl

pub to_at-ends : (x y : Label) → to_at (ends x y) ≡ y
unfolding to_at ends
to_at-ends x y = refl

module _ (hs : List ℕ) (rs ss : List Tree) where
  pub heights-zag : heights (zag hs rs ss) ≡ hs
  unfolding heights zag
  heights-zag = ap (map number_in) (items-seq (map num hs)) ∙ numbers-nums hs

  pub regs-zag : regs (zag hs rs ss) ≡ rs
  unfolding regs zag
  regs-zag = items-seq rs

  pub sings-zag : sings (zag hs rs ss) ≡ ss
  unfolding sings zag
  sings-zag = items-seq ss

module _ (rs ss fs bs : List Tree) where
  pub regs-zig : regs (zig rs ss fs bs) ≡ rs
  unfolding regs zig
  regs-zig = items-seq rs

  pub sings-zig : sings (zig rs ss fs bs) ≡ ss
  unfolding sings zig
  sings-zig = items-seq ss

  pub fwds-zig : fwds (zig rs ss fs bs) ≡ fs
  unfolding fwds zig
  fwds-zig = items-seq fs

  pub bwds-zig : bwds (zig rs ss fs bs) ≡ bs
  unfolding bwds zig
  bwds-zig = items-seq bs

-- the four kinds are apart
pub kind-point : (x : Label) → kind (point x) ≡ 0
unfolding kind point
kind-point x = refl

pub kind-zig : (rs ss fs bs : List Tree) → kind (zig rs ss fs bs) ≡ 1
unfolding kind zig
kind-zig rs ss fs bs = refl

pub kind-ends : (x y : Label) → kind (ends x y) ≡ 2
unfolding kind ends
kind-ends x y = refl

pub kind-zag : (hs : List ℕ) (rs ss : List Tree) → kind (zag hs rs ss) ≡ 3
unfolding kind zag
kind-zag hs rs ss = refl
