-- The program for orders answers as the order does.
use Rattle.std.proofs.Common.{◌≡◌, Bool, sym, ap, ap₂, ◌∙◌, subst, refl, inl, inr}
use Rattle.std.specs.Prelude.{Option, None, Ok, Err}
use Rattle.diagram_terms.specs.declared.place.Bias.{Bias}
use Rattle.diagram_terms.specs.declared.place.Bias.TheVariants.{Unbiased, Earlier, Later}
use Rattle.diagram_terms.specs.HeightClasses.{HeightShape, Member, IsHeightShape}
use Rattle.diagram_terms.specs.OrderFaults.{OrderFault, cyclic, unsettled, IsOrderFault}
use Rattle.diagram_terms.specs.Ranks.{Ranks, IsRanked}
use Rattle.colimit_laws.proofs.GivenRanks as relation
use Rattle.diagram_terms.specs.RankProgram.{members_of, Link, links_of, classes, comes_before, all_links, chains, first_on_cycle, first_pair_apart, ranks_given, order_answer, ranks_under}
use Rattle.colimit_laws.proofs.ClassTests.{tells_joined}
use Rattle.colimit_laws.proofs.ReachTests.{tells_reach}
use Rattle.colimit_laws.proofs.FaultTests.{cycle_found, no_cycle_found, pair_found, no_pair_found}
use Rattle.colimit_laws.proofs.RankTests.{ranks_found}

module _ (H : HeightShape) (vH : IsHeightShape H) where
  abbrev class : Member → Member
  class = classes (links_of H)

  abbrev reach : Member → Member → Bool
  reach = chains (all_links (members_of H)) (comes_before H class) (members_of H)

  answer_ranks : (b : Bias) (r : Ranks) → IsRanked b H r
      → first_on_cycle H reach ≡ None → ranks_given b H class reach ≡ r
      → order_answer b (first_on_cycle H reach) (first_pair_apart H class reach) (ranks_given b H class reach) ≡ Ok r
  answer_ranks Unbiased r rk no_cycle ranks =
      ap (λ (o : Option Member). order_answer Unbiased o (first_pair_apart H class reach) (ranks_given Unbiased H class reach)) no_cycle
      ∙ ap₂ (λ (o : Option Link) (s : Ranks). order_answer Unbiased None o s)
      (no_pair_found H vH class (tells_joined H) reach (tells_reach H class (tells_joined H) vH) (rk.settled refl)) ranks
  answer_ranks Earlier r rk no_cycle ranks =
      ap₂ (λ (o : Option Member) (s : Ranks). order_answer Earlier o (first_pair_apart H class reach) s) no_cycle ranks
  answer_ranks Later r rk no_cycle ranks =
      ap₂ (λ (o : Option Member) (s : Ranks). order_answer Later o (first_pair_apart H class reach) s) no_cycle ranks

  pub answers_ranks : (b : Bias) (r : Ranks) → IsRanked b H r → ranks_under b H ≡ Ok r
  unfolding ranks_under
  answers_ranks b r rk = answer_ranks b r rk
      (no_cycle_found H vH class (tells_joined H) reach (tells_reach H class (tells_joined H) vH) rk.acyclic)
      (ranks_found b H vH class (tells_joined H) reach (tells_reach H class (tells_joined H) vH) r rk)

  pub answers_fault : (b : Bias) (e : OrderFault) → IsOrderFault b H e → ranks_under b H ≡ Err e
  unfolding ranks_under
  answers_fault b (cyclic p) f =
      ap (λ (o : Option Member). order_answer b o (first_pair_apart H class reach) (ranks_given b H class reach))
      (cycle_found H vH class (tells_joined H) reach (tells_reach H class (tells_joined H) vH) p f)
  answers_fault b (unsettled p q) f =
      let no_cycle = no_cycle_found H vH class (tells_joined H) reach (tells_reach H class (tells_joined H) vH) f.1 in
      let pair = pair_found H vH class (tells_joined H) reach (tells_reach H class (tells_joined H) vH) p q f.2 in
      ap (λ (c : Bias). order_answer c (first_on_cycle H reach) (first_pair_apart H class reach) (ranks_given b H class reach)) f.0
      ∙ ap₂ (λ (o : Option Member) (l : Option Link). order_answer Unbiased o l (ranks_given b H class reach)) no_cycle pair

  -- ---- and back, since the order has an answer

  pub ranks_answered : (b : Bias) (r : Ranks) → ranks_under b H ≡ Ok r → IsRanked b H r
  ranks_answered b r e = elim (relation.order_answer b H vH) [
    | inl s ↦ (let same = sym (answers_ranks b s.0 s.1) ∙ e in let t : s.0 ≡ r = cc in subst (IsRanked b H) t s.1)
    | inr f ↦ absurd (let same = sym (answers_fault b f.0 f.1) ∙ e in cc)
  ]

  pub fault_answered : (b : Bias) (e : OrderFault) → ranks_under b H ≡ Err e → IsOrderFault b H e
  fault_answered b e h = elim (relation.order_answer b H vH) [
    | inl s ↦ absurd (let same = sym (answers_ranks b s.0 s.1) ∙ h in cc)
    | inr f ↦ (let same = sym (answers_fault b f.0 f.1) ∙ h in let t : f.0 ≡ e = cc in subst (IsOrderFault b H) t f.1)
  ]
