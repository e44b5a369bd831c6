-- The part of a class is a shape: nonempty, connected, of valid plain diagrams and valid plain arrows.
use Rattle.std.proofs.Common.{◌≡◌, ℕ, zero, suc, ◌<◌, length, get_or, sym, ◌∙◌, subst, arith}
use Rattle.std.specs.List.{Contains}
use Rattle.diagram_terms.specs.declared.place.Height.{Height}
use Rattle.diagram_terms.specs.declared.place.Height.TheVariants as slice
use Rattle.diagram_terms.specs.Family.{Arr, fwd, bwd, height}
use Rattle.diagram_terms.specs.Valid.{ValidArrow, Valid}
use Rattle.diagram_terms.specs.Plain.{PlainArrow, Plain}
use Rattle.diagram_terms.specs.HeightClasses.{HeightMap, Member, member, IsMember, AreJoined, itself, ahead, behind}
use Rattle.diagram_terms.specs.Shapes.{object, Shape, ShapeArrow, AreConnected, here, forth, back, IsArrowOf, IsShape, heights_of}
use Rattle.diagram_terms.specs.Ranks.{Ranks, rank}
use Rattle.colimit_laws.specs.RankConditions.{AreRanks}
use Rattle.diagram_terms.specs.ClassParts.{place, height_slice, part}
use Rattle.colimit_laws.proofs.Membership.{from_map}
use Rattle.colimit_laws.proofs.Names.{IsInPart}
use Rattle.colimit_laws.proofs.Ranked.{lengths-len, length-at, map_of, rows-len, row-len, row-dual_within, has_rank, of_rank-low, of_rank-high, rank-along, arrow-of}
use Rattle.colimit_laws.proofs.Parts.{PartArrow, is_bwd, is_fwd, is_slice, bwd_arrow, slice_arrow, object-at_place, each_object, sing-in_part, object-within, along-in_part, part_arrow, bwd-among, slice-among}
use Rattle.colimit_laws.proofs.Connections.{connected-trans, connected-sym}

module _ (d : ℕ) (S : Shape (suc d)) (vS : IsShape (suc d) S) (r : Ranks) (ar : AreRanks (heights_of d S) r) (k : ℕ) where
  abbrev P : Shape d
  P = part d S r k

  -- ---- the slices that a part has

  pub sing-height : (x i : ℕ) → IsInPart r k x (slice.S i) → i < length (object (suc d) S x).sings
  sing-height x i p =
      let w = p.height in
      let high = w.1 in
      let full = row-dual_within d S vS r ar x (suc k) (object-within d S vS r ar k x (slice.S i) p) in
      omega arith

  pub reg-height : (x t : ℕ) → IsInPart r k x (slice.R t) → t < length (object (suc d) S x).sings
  reg-height x t p =
      let w = p.height in
      let high = w.1 in
      let full = row-dual_within d S vS r ar x (suc k) (object-within d S vS r ar k x (slice.R t) p) in
      omega arith

  -- the singular slices beside a regular one
  pub left-in_part : (x t : ℕ) → IsInPart r k x (slice.R (suc t)) → IsInPart r k x (slice.S t)
  left-in_part x t p = let w = p.height in let low = w.0 in let high = w.1 in record { object = p.object; height = (omega arith, omega arith) }

  pub right-in_part : (x t : ℕ) → IsInPart r k x (slice.R (suc t)) → IsInPart r k x (slice.S (suc t))
  right-in_part x t p = let w = p.height in let low = w.0 in let high = w.1 in record { object = p.object; height = (omega arith, omega arith) }

  slice-valid : (x : ℕ) (h : Height) → IsInPart r k x h → Valid d (height_slice d (object (suc d) S x) h)
  slice-valid x (slice.S i) p = (vS.valid x (object-within d S vS r ar k x (slice.S i) p)).sings i (sing-height x i p)
  slice-valid x (slice.R t) p = (vS.valid x (object-within d S vS r ar k x (slice.R t) p)).regs t (let l = reg-height x t p in omega arith)

  slice-plain : (x : ℕ) (h : Height) → IsInPart r k x h → Plain d (height_slice d (object (suc d) S x) h)
  slice-plain x (slice.S i) p = (vS.plain x (object-within d S vS r ar k x (slice.S i) p)).sings i (sing-height x i p)
  slice-plain x (slice.R t) p =
      let lx = object-within d S vS r ar k x (slice.R t) p in
      (vS.plain x lx).regs t (let l = reg-height x t p in let n = (vS.valid x lx).regs_len in omega arith)

  -- ---- the arrows

  -- an arrow between the places of two slices
  between : (x : ℕ) (g : Height) (y : ℕ) (h : Height) (f : Arr d) → IsInPart r k x g → IsInPart r k y h
      → ValidArrow d (height_slice d (object (suc d) S x) g) (height_slice d (object (suc d) S y) h) f → PlainArrow d f
      → IsArrowOf d P (record { from = place r k x g; to = place r k y h; arrow = f })
  between x g y h f p q v pl =
      let from = object-at_place d S vS r ar k x g p in
      let to = object-at_place d S vS r ar k y h q in
      record {
        from_within = from.0;
        to_within = to.0;
        valid = rw (from.1, to.1) v;
        plain = pl;
      }

  pub arrows-valid : (b : ShapeArrow d) → PartArrow d S r k b → IsArrowOf d P b
  arrows-valid b (is_bwd x t p) =
      let lx = object-within d S vS r ar k x (slice.R (suc t)) p in
      let l : t < length (object (suc d) S x).sings = let m = reg-height x (suc t) p in omega arith in
      between x (slice.R (suc t)) x (slice.S t) (bwd d (object (suc d) S x) t) p (left-in_part x t p) ((vS.valid x lx).bwds t l)
      ((vS.plain x lx).bwds t (let n = (vS.valid x lx).bwds_len in omega arith))
  arrows-valid b (is_fwd x t p) =
      let lx = object-within d S vS r ar k x (slice.R (suc t)) p in
      let l : suc t < length (object (suc d) S x).sings = reg-height x (suc t) p in
      between x (slice.R (suc t)) x (slice.S (suc t)) (fwd d (object (suc d) S x) (suc t)) p (right-in_part x t p) ((vS.valid x lx).fwds (suc t) l)
      ((vS.plain x lx).fwds (suc t) (let n = (vS.valid x lx).fwds_len in omega arith))
  arrows-valid b (is_slice g c i low high) =
      let v = arrow-of d S vS r ar g c in
      let p = sing-in_part d S vS r ar k g.from i v.from_within low high in
      let l : i < length (object (suc d) S g.from).sings = sing-height g.from i p in
      let e = has_rank d S vS r ar g.from i k v.from_within low high in
      between g.from (slice.S i) g.to (slice.S (height d g.arrow i)) _ p (along-in_part d S vS r ar k g c i l e)
      (v.valid.sings i l) (v.plain.sings i (let n = v.valid.sings_len in omega arith))

  -- ---- connected

  -- each slice is connected to a singular one
  to_sing : (x : ℕ) (h : Height) → IsInPart r k x h → (i : ℕ) × IsInPart r k x (slice.S i) × AreConnected d P (place r k x h) (place r k x (slice.S i))
  to_sing x (slice.S i) p = (i, p, here)
  to_sing x (slice.R zero) p = absurd (let l = p.height.0 in omega arith)
  to_sing x (slice.R (suc t)) p = (t, left-in_part x t p, forth (bwd_arrow d S r k x t) (bwd-among d S vS r ar k x t p) here)

  -- the member of an arrow's source and that of its target are both in the part, or neither
  pub target-in_part : (g : ShapeArrow (suc d)) → Contains S.arrows g → (i : ℕ) → IsInPart r k g.from (slice.S i)
      → IsInPart r k g.to (slice.S (height d g.arrow i))
  target-in_part g c i p =
      let v = arrow-of d S vS r ar g c in
      let w = p.height in
      along-in_part d S vS r ar k g c i (sing-height g.from i p) (has_rank d S vS r ar g.from i k v.from_within w.0 w.1)

  pub source-in_part : (g : ShapeArrow (suc d)) → Contains S.arrows g → (i : ℕ) → i < length g.arrow.heights
      → IsInPart r k g.to (slice.S (height d g.arrow i)) → IsInPart r k g.from (slice.S i)
  source-in_part g c i l p =
      let v = arrow-of d S vS r ar g c in
      let w = p.height in
      let n = v.valid.heights_len in
      let li : i < length (object (suc d) S g.from).sings = omega arith in
      let e = has_rank d S vS r ar g.to (height d g.arrow i) k v.to_within w.0 w.1 in
      let same : rank r g.from i ≡ k = sym (rank-along d S vS r ar g c i li) ∙ e in
      sing-in_part d S vS r ar k g.from i v.from_within (of_rank-low d S vS r ar g.from i k v.from_within same)
      (of_rank-high d S vS r ar g.from i k v.from_within li same)

  along : (g : ShapeArrow (suc d)) → Contains S.arrows g → (i : ℕ) → IsInPart r k g.from (slice.S i)
      → Contains P.arrows (slice_arrow d r k g i)
  along g c i p = let w = p.height in slice-among d S vS r ar k g c i w.0 w.1

  -- Members that are joined are in one part, and what holds of one and passes along the arrows, in either direction, holds of
  -- the other.
  module _ (Q : Member → Type 0)
      (on : (g : ShapeArrow (suc d)) → Contains S.arrows g → (i : ℕ) → IsInPart r k g.from (slice.S i)
      → Q (member g.from i) → Q (member g.to (height d g.arrow i)))
      (off : (g : ShapeArrow (suc d)) → Contains S.arrows g → (i : ℕ) → IsInPart r k g.from (slice.S i)
      → Q (member g.to (height d g.arrow i)) → Q (member g.from i)) where
    abbrev Holds : Member → Type 0
    Holds q = IsInPart r k q.object (slice.S q.height) × Q q

    ahead_step : (m : HeightMap) → Contains (heights_of d S).maps m → (i : ℕ) → i < length m.heights
        → Holds (member m.from i) → Holds (member m.to (get_or m.heights i 0))
    ahead_step m c i =
        let f = from_map (map_of d S) S.arrows m c in
        let g : ShapeArrow (suc d) = f.0 in
        subst (λ (m : HeightMap). i < length m.heights → Holds (member m.from i) → Holds (member m.to (get_or m.heights i 0))) f.2
        (λ l h. (target-in_part g f.1 i h.0, on g f.1 i h.0 h.1))

    behind_step : (m : HeightMap) → Contains (heights_of d S).maps m → (i : ℕ) → i < length m.heights
        → Holds (member m.to (get_or m.heights i 0)) → Holds (member m.from i)
    behind_step m c i =
        let f = from_map (map_of d S) S.arrows m c in
        let g : ShapeArrow (suc d) = f.0 in
        subst (λ (m : HeightMap). i < length m.heights → Holds (member m.to (get_or m.heights i 0)) → Holds (member m.from i)) f.2
        (λ l h. let s = source-in_part g f.1 i l h.0 in (s, off g f.1 i s h.1))

    pub holds_where_joined : (p q : Member) → Holds p → AreJoined (heights_of d S) p q → Holds q
    holds_where_joined p q h itself = h
    holds_where_joined p q h (ahead m c i l j) = ahead_step m c i l (holds_where_joined p (member m.from i) h j)
    holds_where_joined p q h (behind m c i l j) = behind_step m c i l (holds_where_joined p (member m.to (get_or m.heights i 0)) h j)

  -- two members of one rank
  pub sing-member : (x i : ℕ) → IsInPart r k x (slice.S i) → IsMember (heights_of d S) (member x i)
  sing-member x i p =
      let lx = object-within d S vS r ar k x (slice.S i) p in
      let n = lengths-len d S in
      let e = length-at d S x lx in
      let l = sing-height x i p in
      record { object = omega arith; height = omega arith }

  pub sings-joined : (x i y j : ℕ) → IsInPart r k x (slice.S i) → IsInPart r k y (slice.S j) → AreJoined (heights_of d S) (member x i) (member y j)
  sings-joined x i y j p q =
      let w = p.height in
      let u = q.height in
      ar.linked (member x i) (member y j) (sing-member x i p) (sing-member y j q)
      (has_rank d S vS r ar x i k (object-within d S vS r ar k x (slice.S i) p) w.0 w.1
      ∙ sym (has_rank d S vS r ar y j k (object-within d S vS r ar k y (slice.S j) q) u.0 u.1))

  slices-connected : (x : ℕ) (g : Height) (y : ℕ) (h : Height) → IsInPart r k x g → IsInPart r k y h
      → AreConnected d P (place r k x g) (place r k y h)
  slices-connected x g y h p q =
      let a = to_sing x g p in
      let b = to_sing y h q in
      let m = holds_where_joined (λ q. AreConnected d P (place r k x (slice.S a.0)) (place r k q.object (slice.S q.height)))
      (λ g c i s h. forth (slice_arrow d r k g i) (along g c i s) h) (λ g c i s h. back (slice_arrow d r k g i) (along g c i s) h)
      (member x a.0) (member y b.0) (a.1, here) (sings-joined x a.0 y b.0 a.1 b.1) in
      connected-trans d P _ _ _ (connected-trans d P _ _ _ a.2 m.1) (connected-sym d P _ _ b.2)

  -- ---- the shape

  pub member-in_part : k < r.count → (x : ℕ) × (i : ℕ) × (x < length S.objects) × IsInPart r k x (slice.S i)
  member-in_part l =
      let o = ar.onto k l in
      let n = rows-len d S vS r ar in
      let w = o.within_objects in
      let lx : o.object < length S.objects = omega arith in
      let m = row-len d S vS r ar o.object lx in
      let li = o.within in (
        o.object,
        o.height,
        lx,
        sing-in_part d S vS r ar k o.object o.height lx (of_rank-low d S vS r ar o.object o.height k lx o.ranked)
            (of_rank-high d S vS r ar o.object o.height k lx (omega arith) o.ranked),
      )

  pub part-shape : k < r.count → IsShape d P
  part-shape l =
      let o = member-in_part l in
      let here = object-at_place d S vS r ar k o.0 (slice.S o.1) o.3 in
      record {
        nonempty = (let w = here.0 in omega arith);
        valid = each_object d S vS r ar k (λ j. Valid d (object d P j))
            (λ x h p. rw ((object-at_place d S vS r ar k x h p).1) (slice-valid x h p));
        plain = each_object d S vS r ar k (λ j. Plain d (object d P j))
            (λ x h p. rw ((object-at_place d S vS r ar k x h p).1) (slice-plain x h p));
        arrows = λ b c. arrows-valid b (part_arrow d S vS r ar k b c);
        connected = λ i j li lj. each_object d S vS r ar k (λ i. AreConnected d P i j)
            (λ x g p. each_object d S vS r ar k (λ j. AreConnected d P (place r k x g) j) (λ y h q. slices-connected x g y h p q) j lj) i li;
      }
