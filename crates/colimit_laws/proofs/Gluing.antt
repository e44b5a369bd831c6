-- The cocone that the parts' colimits make is valid and plain, and agrees with the arrows.
use Rattle.std.proofs.Common.{◌≡◌, ℕ, suc, ◌-◌, ◌<◌, ◌≤◌, List, length, sym, ◌∙◌, subst, arith}
use Rattle.diagram_terms.specs.declared.place.Height.TheVariants as slice
use Rattle.diagram_terms.specs.Family.{Dia, reg, sing, fwd, bwd}
use Rattle.diagram_terms.specs.Dual.{dual}
use Rattle.diagram_terms.specs.Valid.{ValidArrow, Valid}
use Rattle.diagram_terms.specs.Plain.{PlainArrow, Plain}
use Rattle.map_laws.proofs.ValidComposites.{composites_are_valid}
use Rattle.map_laws.proofs.PlainArrows.{plain_arrows_compose}
use Rattle.diagram_terms.specs.Ranks.{Ranks, ranks_of}
use Rattle.colimit_laws.specs.RankConditions.{AreRanks}
use Rattle.diagram_terms.specs.Shapes.{Shape, IsShape, heights_of, object}
use Rattle.diagram_terms.specs.Cocones.{Cocone, IsPlainCocone}
use Rattle.diagram_terms.specs.ClassParts.{part}
use Rattle.diagram_terms.specs.Colimits.{cocone_at, part_leg, first_with, apex_reg, glued_apex}
use Rattle.colimit_laws.proofs.Names.{IsInPart}
use Rattle.colimit_laws.proofs.Ranked.{row-dual_within}
use Rattle.colimit_laws.proofs.PartShapes.{sing-height}
use Rattle.colimit_laws.proofs.ClassEdges.{regs-agree, part_leg-valid, part_leg-plain, enter, leave}
use Rattle.colimit_laws.proofs.Choices.{HasMember, enter_class-is, leave_class-is, first-member, last-member, edges-agree, edges-meet_without, first-has}
use Rattle.colimit_laws.proofs.GluedParts.{apex_reg-is, apex-regs_len, apex-sings_len, apex-fwds_len, apex-bwds_len, apex-reg, apex-sing, apex-fwd, apex-bwd}

module _ (d : ℕ) (S : Shape (suc d)) (vS : IsShape (suc d) S) (r : Ranks) (ar : AreRanks (heights_of d S) r) (parts : List (Cocone d))
    (good : (k : ℕ) → k < r.count → IsPlainCocone d (part d S r k) (cocone_at d parts k)) where
  abbrev A : Dia (suc d)
  A = glued_apex d S r parts

  -- ---- the apex

  -- the regular slice of any object at the dual of its ranks
  pub apex_reg-any : (x j : ℕ) → x < length S.objects → reg d (object (suc d) S x) (dual (ranks_of r x) j) ≡ apex_reg d S r parts j
  apex_reg-any x j l = regs-agree d S vS r ar x j l ∙ sym (apex_reg-is d S r parts j)

  pub apex_reg-valid : (j : ℕ) → Valid d (apex_reg d S r parts j)
  apex_reg-valid j = rw (apex_reg-is d S r parts j) ((vS.valid 0 vS.nonempty).regs (dual (ranks_of r 0) j) (row-dual_within d S vS r ar 0 j vS.nonempty))

  apex_reg-plain : (j : ℕ) → Plain d (apex_reg d S r parts j)
  apex_reg-plain j = rw (apex_reg-is d S r parts j) ((vS.plain 0 vS.nonempty).regs (dual (ranks_of r 0) j)
      (let n = (vS.valid 0 vS.nonempty).regs_len in let l = row-dual_within d S vS r ar 0 j vS.nonempty in omega arith))

  -- the ways into the apex of a part
  enter-valid : (k : ℕ) (l : k < r.count) (x i : ℕ) → IsInPart r k x (slice.S i) → x < length S.objects
      → ValidArrow d (reg d (object (suc d) S x) i) (cocone_at d parts k).apex (enter d S vS r ar parts k (good k l) x i)
  unfolding enter
  enter-valid k l x i p lx =
      let li = sing-height d S vS r ar k x i p in
      let v = vS.valid x lx in
      composites_are_valid d _ _ _ (fwd d (object (suc d) S x) i) (part_leg d S r parts k x (slice.S i)) (v.regs i (omega arith)) (v.sings i li)
      (good k l).cocone.apex (v.fwds i li) (part_leg-valid d S vS r ar parts k (good k l) x (slice.S i) p)

  leave-valid : (k : ℕ) (l : k < r.count) (x i : ℕ) → IsInPart r k x (slice.S i) → x < length S.objects
      → ValidArrow d (reg d (object (suc d) S x) (suc i)) (cocone_at d parts k).apex (leave d S vS r ar parts k (good k l) x i)
  unfolding leave
  leave-valid k l x i p lx =
      let li = sing-height d S vS r ar k x i p in
      let v = vS.valid x lx in
      composites_are_valid d _ _ _ (bwd d (object (suc d) S x) i) (part_leg d S r parts k x (slice.S i)) (v.regs (suc i) li) (v.sings i li)
      (good k l).cocone.apex (v.bwds i li) (part_leg-valid d S vS r ar parts k (good k l) x (slice.S i) p)

  enter-plain : (k : ℕ) (l : k < r.count) (x i : ℕ) → IsInPart r k x (slice.S i) → x < length S.objects
      → PlainArrow d (enter d S vS r ar parts k (good k l) x i)
  unfolding enter
  enter-plain k l x i p lx =
      let li = sing-height d S vS r ar k x i p in
      let v = vS.valid x lx in
      plain_arrows_compose d _ _ _ (fwd d (object (suc d) S x) i) (part_leg d S r parts k x (slice.S i)) (v.fwds i li)
      (part_leg-valid d S vS r ar parts k (good k l) x (slice.S i) p) ((vS.plain x lx).fwds i (let n = v.fwds_len in omega arith))
      (part_leg-plain d S vS r ar parts k (good k l) x (slice.S i) p)

  leave-plain : (k : ℕ) (l : k < r.count) (x i : ℕ) → IsInPart r k x (slice.S i) → x < length S.objects
      → PlainArrow d (leave d S vS r ar parts k (good k l) x i)
  unfolding leave
  leave-plain k l x i p lx =
      let li = sing-height d S vS r ar k x i p in
      let v = vS.valid x lx in
      plain_arrows_compose d _ _ _ (bwd d (object (suc d) S x) i) (part_leg d S r parts k x (slice.S i)) (v.bwds i li)
      (part_leg-valid d S vS r ar parts k (good k l) x (slice.S i) p) ((vS.plain x lx).bwds i (let n = v.bwds_len in omega arith))
      (part_leg-plain d S vS r ar parts k (good k l) x (slice.S i) p)

  -- the legs of the apex, from any object that has a member
  pub apex-fwd_from : (k : ℕ) (l : k < r.count) (x : ℕ) → x < length S.objects → HasMember r k x
      → fwd d A k ≡ enter d S vS r ar parts k (good k l) x (dual (ranks_of r x) k)
  apex-fwd_from k l x lx h =
      let f = first-has d S vS r ar parts k (good k l) l in
      apex-fwd d S r parts k l ∙ enter_class-is d S vS r ar parts k (good k l) (first_with r.ranks k)
      ∙ (edges-agree d S vS r ar parts k (good k l) (first_with r.ranks k) x f.0 lx f.1 h).0

  pub apex-bwd_from : (k : ℕ) (l : k < r.count) (x : ℕ) → x < length S.objects → HasMember r k x
      → bwd d A k ≡ leave d S vS r ar parts k (good k l) x (dual (ranks_of r x) (suc k) - 1)
  apex-bwd_from k l x lx h =
      let f = first-has d S vS r ar parts k (good k l) l in
      apex-bwd d S r parts k l ∙ leave_class-is d S vS r ar parts k (good k l) (first_with r.ranks k)
      ∙ (edges-agree d S vS r ar parts k (good k l) (first_with r.ranks k) x f.0 lx f.1 h).1

  -- they are one where some object has no member
  pub apex-legs_meet : (k : ℕ) → k < r.count → (x : ℕ) → x < length S.objects → dual (ranks_of r x) (suc k) ≤ dual (ranks_of r x) k → fwd d A k ≡ bwd d A k
  apex-legs_meet k l x lx none =
      let f = first-has d S vS r ar parts k (good k l) l in
      apex-fwd_from k l (first_with r.ranks k) f.0 f.1
      ∙ edges-meet_without d S vS r ar parts k (good k l) (first_with r.ranks k) x f.0 lx f.1 none
      ∙ sym (apex-bwd_from k l (first_with r.ranks k) f.0 f.1)

  valid_fwd : (k : ℕ) → k < r.count → ValidArrow d (reg d A k) (sing d A k) (fwd d A k)
  valid_fwd k l =
      let f = first-has d S vS r ar parts k (good k l) l in
      let x : ℕ = first_with r.ranks k in
      rw (apex-reg d S r parts k (omega arith), ← apex_reg-any x k f.0, apex-sing d S r parts k l, apex-fwd_from k l x f.0 f.1)
      (enter-valid k l x (dual (ranks_of r x) k) (first-member d S vS r ar parts k (good k l) x f.0 f.1) f.0)

  valid_bwd : (k : ℕ) → k < r.count → ValidArrow d (reg d A (suc k)) (sing d A k) (bwd d A k)
  valid_bwd k l =
      let f = first-has d S vS r ar parts k (good k l) l in
      let x : ℕ = first_with r.ranks k in
      let h = f.1 in
      let top : suc (dual (ranks_of r x) (suc k) - 1) ≡ dual (ranks_of r x) (suc k) = omega arith in
      rw (apex-reg d S r parts (suc k) l, ← apex_reg-any x (suc k) f.0, apex-sing d S r parts k l, apex-bwd_from k l x f.0 f.1)
      (subst (λ (t : ℕ). ValidArrow d (reg d (object (suc d) S x) t) (cocone_at d parts k).apex (leave d S vS r ar parts k (good k l) x (dual (ranks_of r x) (suc k) - 1))) top
      (leave-valid k l x (dual (ranks_of r x) (suc k) - 1) (last-member d S vS r ar parts k (good k l) x f.0 f.1) f.0))

  pub apex-valid : Valid (suc d) A
  apex-valid =
      let rl = apex-regs_len d S r parts in
      let sl = apex-sings_len d S r parts in
      let fl = apex-fwds_len d S r parts in
      let bl = apex-bwds_len d S r parts in
      record {
        regs_len = omega arith;
        fwds_len = omega arith;
        bwds_len = omega arith;
        regs = λ j l. rw (apex-reg d S r parts j (omega arith)) (apex_reg-valid j);
        sings = λ k l. rw (apex-sing d S r parts k (omega arith)) (good k (omega arith)).cocone.apex;
        fwds = λ k l. valid_fwd k (omega arith);
        bwds = λ k l. valid_bwd k (omega arith);
      }

  plain_fwd : (k : ℕ) → k < r.count → PlainArrow d (fwd d A k)
  plain_fwd k l =
      let f = first-has d S vS r ar parts k (good k l) l in
      let x : ℕ = first_with r.ranks k in
      rw (apex-fwd_from k l x f.0 f.1)
      (enter-plain k l x (dual (ranks_of r x) k) (first-member d S vS r ar parts k (good k l) x f.0 f.1) f.0)

  plain_bwd : (k : ℕ) → k < r.count → PlainArrow d (bwd d A k)
  plain_bwd k l =
      let f = first-has d S vS r ar parts k (good k l) l in
      let x : ℕ = first_with r.ranks k in
      rw (apex-bwd_from k l x f.0 f.1)
      (leave-plain k l x (dual (ranks_of r x) (suc k) - 1) (last-member d S vS r ar parts k (good k l) x f.0 f.1) f.0)

  pub apex-plain : Plain (suc d) A
  apex-plain =
      let rl = apex-regs_len d S r parts in
      let sl = apex-sings_len d S r parts in
      let fl = apex-fwds_len d S r parts in
      let bl = apex-bwds_len d S r parts in
      record {
        regs = λ j l. rw (apex-reg d S r parts j (omega arith)) (apex_reg-plain j);
        sings = λ k l. rw (apex-sing d S r parts k (omega arith)) (good k (omega arith)).plain;
        fwds = λ k l. plain_fwd k (omega arith);
        bwds = λ k l. plain_bwd k (omega arith);
      }
