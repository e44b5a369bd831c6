-- The plain program that computes the ranks of a height order, or its fault: classes by joining, what reaches what by adding one
-- member after the other, and ranks one after the other. That it meets the relations is a law.
use Rattle.std.specs.Prelude.{ℕ, zero, suc, Bool, true, false, not, ◌&&◌, ◌||◌, nat_eq, nat_lt, if◌then◌else◌, List, [], ◌∷◌, length, get_or, map, Option, Some, None, Result, Ok, Err}
use Rattle.std.specs.List.{list_all, list_any, filter, flat_map}
use Rattle.diagram_terms.specs.declared.place.Bias.{Bias}
use Rattle.diagram_terms.specs.declared.place.Bias.TheVariants.{Unbiased, Earlier, Later}
use Rattle.diagram_terms.specs.Dual.{upto, tab}
use Rattle.diagram_terms.specs.HeightClasses.{HeightMap, HeightShape, Member, member}
use Rattle.diagram_terms.specs.OrderFaults.{OrderFault, cyclic, unsettled}
use Rattle.diagram_terms.specs.Ranks.{Ranks, key}

-- ---- members, by tests

abbrev pub same_member : Member → Member → Bool
same_member p q = nat_eq p.object q.object && nat_eq p.height q.height

abbrev pub is_before : Member → Member → Bool
is_before p q = nat_lt p.object q.object || (nat_eq p.object q.object && nat_lt p.height q.height)

abbrev pub is_member : HeightShape → Member → Bool
is_member H p = nat_lt p.object (length H.lengths) && nat_lt p.height (get_or H.lengths p.object 0)

-- all members, in order
unfoldable pub members_of : HeightShape → List Member
members_of H = flat_map (λ x. map (member x) (upto (get_or H.lengths x 0))) (upto (length H.lengths))

-- the first least element that passes the test
abbrev pub lesser : {X : Type 0} → (X → X → Bool) → Bool → X → Option X → Option X
lesser less false x found = found
lesser less true x None = Some x
lesser less true x (Some y) = if less x y then Some x else Some y

unfoldable pub least_by : {X : Type 0} → (X → X → Bool) → (X → Bool) → List X → Option X
least_by less test [] = None
least_by less test (x ∷ xs) = lesser less (test x) x (least_by less test xs)

-- ---- classes

-- two members that a map joins
pub record Link : Type 0 where
  pub one : Member
  pub other : Member

-- the height i of the source of a map, and where it goes
abbrev pub link_at : HeightMap → ℕ → Link
link_at m i = record { one = member m.from i; other = member m.to (get_or m.heights i 0) }

-- the links of all maps
unfoldable pub links_of : HeightShape → List Link
links_of H = flat_map (λ m. map (link_at m) (upto (length m.heights))) H.maps

-- the class a takes in the class b
abbrev pub taken_in : Member → Member → (Member → Member) → Member → Member
taken_in a b class p = let c : Member = class p in if same_member c b then a else c

-- that of the other end in that of the one end
abbrev pub joined_by : Link → (Member → Member) → Member → Member
joined_by l class = taken_in (class l.one) (class l.other) class

-- a member of the class of each member
unfoldable pub classes : List Link → Member → Member
classes [] = λ p. p
classes (l ∷ links) = joined_by l (classes links)

-- ---- what reaches what

module _ (H : HeightShape) (class : Member → Member) where
  abbrev pub in_one_class : Member → Member → Bool
  in_one_class p q = same_member (class p) (class q)

  abbrev pub next_of : Member → Member
  next_of m = member m.object (suc m.height)

  -- some height is in the class of p, and the next height of its object in that of q, another one
  unfoldable pub comes_before : Member → Member → Bool
  comes_before p q = not (in_one_class p q)
      && list_any (λ m. is_member H (next_of m) && (in_one_class p m && in_one_class q (next_of m))) (members_of H)

-- all pairs of members
unfoldable pub all_links : List Member → List Link
all_links ms = flat_map (λ p. map (λ q. record { one = p; other = q }) ms) ms

-- the relation of the pairs that are listed
abbrev pub listed : List Link → Member → Member → Bool
listed links p q = list_any (λ l. same_member l.one p && same_member l.other q) links

-- a relation, held as the list of those pairs that it relates
unfoldable pub held : List Link → (Member → Member → Bool) → Member → Member → Bool
held pairs related = listed (filter (λ l. related l.one l.other) pairs)

-- chains over m besides
abbrev pub over : Member → (Member → Member → Bool) → Member → Member → Bool
over m related p q = related p q || (related p m && related m q)

-- chains of one or more steps, over the members of a list
unfoldable pub chains : List Link → (Member → Member → Bool) → List Member → Member → Member → Bool
chains pairs step [] = held pairs step
chains pairs step (m ∷ ms) = held pairs (over m (chains pairs step ms))

-- ---- faults, by classes and what reaches what

-- the least member of the least class that reaches itself
unfoldable pub first_on_cycle : HeightShape → (Member → Member → Bool) → Option Member
first_on_cycle H reach = least_by is_before (λ p. reach p p) (members_of H)

module _ (H : HeightShape) (class : Member → Member) (reach : Member → Member → Bool) where
  -- p is a member, and none of its class is before it
  unfoldable pub is_least : Member → Bool
  is_least p = is_member H p && list_all (λ q. not (in_one_class H class p q && is_before q p)) (members_of H)

  -- p and q are the least members of two classes of which neither reaches the other
  unfoldable pub are_apart : Member → Member → Bool
  are_apart p q = is_least p && (is_least q && (is_before p q && (not (reach p q) && not (reach q p))))

  -- the first p that is apart from some member, and the least member from which it is
  abbrev pub apart_from : Member → Option Member → Option Link
  apart_from p None = None
  apart_from p (Some q) = Some (record { one = p; other = q })

  abbrev pub apart_at : Option Member → Option Link
  apart_at None = None
  apart_at (Some p) = apart_from p (least_by is_before (are_apart p) (members_of H))

  unfoldable pub first_pair_apart : Option Link
  first_pair_apart = apart_at (least_by is_before (λ p. list_any (are_apart p) (members_of H)) (members_of H))

-- ---- ranks

-- the ranks below the count are given: value is the rank of a member that has one, and the count for each other member
pub record Giving : Type 0 where
  pub value : Member → ℕ
  pub count : ℕ

-- what is given after the next member, if there is one
abbrev pub give_next : Option Member → Giving → (Member → Giving) → Giving
give_next None so_far more = so_far
give_next (Some p) so_far more = more p

module _ (b : Bias) (H : HeightShape) (class : Member → Member) (reach : Member → Member → Bool) where
  -- p has no rank, and all that reach it have one
  unfoldable pub is_available : (Member → ℕ) → ℕ → Member → Bool
  is_available value k p = nat_eq (value p) k && list_all (λ t. not (reach t p) || nat_lt (value t) k) (members_of H)

  -- the available member of the least key
  unfoldable pub next_member : (Member → ℕ) → ℕ → Option Member
  next_member value k = least_by (λ p q. is_before (key b H p) (key b H q)) (is_available value k) (members_of H)

  -- the rank of a member in the class that takes the rank k, or not in it; k + 1 tells that it has none
  abbrev pub with_rank : ℕ → Bool → ℕ → ℕ
  with_rank k true v = k
  with_rank k false v = if nat_eq v k then suc k else v

  -- the values when the class of p has taken it
  abbrev pub given_to : Member → (Member → ℕ) → ℕ → Member → ℕ
  given_to p value k m = with_rank k (in_one_class H class p m) (value m)

  -- ranks are given as long as a member is available, at most n of them
  unfoldable pub give : ℕ → (Member → ℕ) → ℕ → Giving
  give zero value k = record { value = value; count = k }
  give (suc n) value k = give_next (next_member value k) (record { value = value; count = k }) (λ p. give n (given_to p value k) (suc k))

  -- the ranks object by object
  abbrev pub rank_rows : Giving → Ranks
  rank_rows g = record {
    ranks = tab (λ x. tab (λ i. g.value (member x i)) (get_or H.lengths x 0)) (length H.lengths);
    count = g.count;
  }

  -- all ranks: there are no more than members
  unfoldable pub ranks_given : Ranks
  ranks_given = rank_rows (give (length (members_of H)) (λ m. 0) 0)

-- a cycle is answered first, then without a bias what is apart, and else ranks
abbrev pub order_answer : Bias → Option Member → Option Link → Ranks → Result Ranks OrderFault
order_answer b (Some p) pair r = Err (cyclic p)
order_answer Unbiased None (Some l) r = Err (unsettled l.one l.other)
order_answer Unbiased None None r = Ok r
order_answer Earlier None pair r = Ok r
order_answer Later None pair r = Ok r

-- the answer for classes and what reaches what
abbrev pub ranks_by : Bias → HeightShape → (Member → Member) → (Member → Member → Bool) → Result Ranks OrderFault
ranks_by b H class reach =
    order_answer b (first_on_cycle H reach) (first_pair_apart H class reach) (ranks_given b H class reach)

abbrev pub ranks_of_classes : Bias → HeightShape → (Member → Member) → Result Ranks OrderFault
ranks_of_classes b H class = ranks_by b H class (chains (all_links (members_of H)) (comes_before H class) (members_of H))

-- the ranks of the order of H under a bias, or what is at fault
unfoldable pub ranks_under : Bias → HeightShape → Result Ranks OrderFault
ranks_under b H = ranks_of_classes b H (classes (links_of H))
