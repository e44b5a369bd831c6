-- Labels within the limits: in the trees of valid diagrams, and of arrows between them.
use Rattle.std.proofs.Common.{ℕ, zero, suc, ◌<◌, ◌≤◌, inl, inr, [], ◌++◌, length, get_or, All, refl, sym, ap, subst, ◌∙◌, arith}
use Rattle.std.proofs.lemmas.List.Elements.{All-append, All-cons, All-from_get_or, All-get_or, All-head, All-nil}
use Rattle.diagram_terms.specs.declared.label.Label.{Label}
use Rattle.diagram_terms.specs.Completion.{children}
use Rattle.diagram_terms.specs.Decoded.{dia}
use Rattle.diagram_terms.specs.Dual.{dual}
use Rattle.diagram_terms.specs.Family.{Arr, Dia, arrow_reg, arrow_sing, bwd, fwd, height, no_arr, reg, sing}
use Rattle.diagram_terms.specs.LabelsOf.{HasLabel}
use Rattle.diagram_terms.specs.Shape.{IsDiagram, reg_at, sing_at}
use Rattle.diagram_terms.specs.Tree.{Tree, nil, regs, sings, fwds, bwds, label_at}
use Rattle.diagram_terms.specs.Valid.{Valid, ValidArrow}
use Rattle.diagram_terms.proofs.Completions.{children-point, children-zig, diagram_completions}
use Rattle.diagram_terms.proofs.Decisions.{All-left, All-right}
use Rattle.diagram_terms.proofs.Dimensions.{diagram_tree}
use Rattle.diagram_terms.proofs.Duals.{dual-le-length}
use Rattle.diagram_terms.proofs.Glue.{dia-bwd, dia-fwd, dia-reg, dia-sing, dia-sings_len}
use Rattle.workspace_json.specs.Maps.{HasLabelsWithinLimits, own_labels}
use Rattle.workspace_json.proofs.LabelLimits.{ArrowWithin, IsCompleted, OwnWithin, Within, from_arrow, from_children, its_children, its_own, none_own, own-point, own-zig}

-- each label of a diagram is within the limits
abbrev pub DiagramWithin : (d : ℕ) → Dia d → Type 0
DiagramWithin d X = (x : Label) → HasLabel d X x → Within x

pub reg_within : (d : ℕ) (X : Dia (suc d)) → DiagramWithin (suc d) X → (j : ℕ) → j ≤ length X.sings → DiagramWithin d (reg d X j)
reg_within d X w j l x h = w x (inl (j, l, h))

pub sing_within : (d : ℕ) (X : Dia (suc d)) → DiagramWithin (suc d) X → (i : ℕ) → i < length X.sings → DiagramWithin d (sing d X i)
sing_within d X w i l x h = w x (inr (i, l, h))

-- an arrow between such diagrams
pub arrow_within : (d : ℕ) (X Y : Dia d) (f : Arr d) → ValidArrow d X Y f → DiagramWithin d X → DiagramWithin d Y → ArrowWithin d f
arrow_within zero X Y f v a b = (subst Within (sym v.from) (a X refl), subst Within (sym v.to) (b Y refl))
arrow_within (suc d) X Y f v a b =
    let hl = v.heights_len in
    let rl = v.regs_len in
    let sl = v.sings_len in (
      All-from_get_or (ArrowWithin d) f.regs (no_arr d) (λ k l.
          let dl = dual-le-length f.heights k in
          arrow_within d (reg d X (dual f.heights k)) (reg d Y k) (arrow_reg d f k) (v.regs k (omega arith))
          (reg_within d X a (dual f.heights k) (omega arith)) (reg_within d Y b k (omega arith))),
      All-from_get_or (ArrowWithin d) f.sings (no_arr d) (λ i l.
          let below = v.below.below i (omega arith) in
          arrow_within d (sing d X i) (sing d Y (height d f i)) (arrow_sing d f i) (v.sings i (omega arith))
          (sing_within d X a i (omega arith)) (sing_within d Y b (height d f i) below)),
    )

-- ---- trees of diagrams

diagram_completed : (d : ℕ) (t : Tree) → IsDiagram d t → IsCompleted t
diagram_completed d t h = diagram_completions t (diagram_tree d t h)

-- the labels of a tree are within the limits, so those of the diagram are
pub its_diagram : (d : ℕ) (t : Tree) → IsDiagram d t → HasLabelsWithinLimits t → DiagramWithin d (dia d t)
its_diagram zero t h w x e =
    let own : OwnWithin t = its_own t (diagram_completed zero t h) w in
    subst Within e (All-head Within (label_at t) [] (subst (All Within) (ap own_labels h ∙ own-point (label_at t)) own))
its_diagram (suc d) t h w x p =
    let parts : All HasLabelsWithinLimits (regs t ++ sings t ++ fwds t ++ bwds t) =
    subst (All HasLabelsWithinLimits) (ap children h.is_zig ∙ children-zig (regs t) (sings t) (fwds t) (bwds t)) (its_children t (diagram_completed (suc d) t h) w) in
    let three = All-left HasLabelsWithinLimits (regs t ++ sings t ++ fwds t) (bwds t) parts in
    let two = All-left HasLabelsWithinLimits (regs t ++ sings t) (fwds t) three in
    let rs = All-left HasLabelsWithinLimits (regs t) (sings t) two in
    let ss = All-right HasLabelsWithinLimits (regs t) (sings t) two in
    let sl = dia-sings_len d t in
    let rl = h.regs_len in
    elim p [
      | inl q ↦ (let l : q.0 ≤ length (sings t) = let m = q.1 in omega arith in
          its_diagram d (reg_at t q.0) (h.regs_are q.0 l) (All-get_or HasLabelsWithinLimits (regs t) q.0 nil (omega arith) rs) x
          (subst (λ X. HasLabel d X x) (dia-reg d t h q.0 l) q.2))
      | inr q ↦ (let l : q.0 < length (sings t) = let m = q.1 in omega arith in
          its_diagram d (sing_at t q.0) (h.sings_are q.0 l) (All-get_or HasLabelsWithinLimits (sings t) q.0 nil l ss) x
          (subst (λ X. HasLabel d X x) (dia-sing d t h q.0 l) q.2))
    ]

-- the other way round, for a valid diagram
pub from_diagram : (d : ℕ) (t : Tree) → IsDiagram d t → Valid d (dia d t) → DiagramWithin d (dia d t) → HasLabelsWithinLimits t
from_diagram zero t h v w =
    from_children t (diagram_completed zero t h)
    (subst (All Within) (sym (ap own_labels h ∙ own-point (label_at t))) (All-cons Within (label_at t) [] (w (label_at t) refl) (All-nil Within)))
    (subst (All HasLabelsWithinLimits) (sym (ap children h ∙ children-point (label_at t))) (All-nil HasLabelsWithinLimits))
from_diagram (suc d) t h v w =
    let X : Dia (suc d) = dia (suc d) t in
    let rl = h.regs_len in
    let fl = h.fwds_len in
    let bl = h.bwds_len in
    let sl = dia-sings_len d t in
    let rs : All HasLabelsWithinLimits (regs t) = All-from_get_or HasLabelsWithinLimits (regs t) nil (λ k l.
    let e = dia-reg d t h k (omega arith) in
    from_diagram d (reg_at t k) (h.regs_are k (omega arith)) (subst (Valid d) e (v.regs k (omega arith)))
    (subst (DiagramWithin d) e (reg_within d X w k (omega arith)))) in
    let ss : All HasLabelsWithinLimits (sings t) = All-from_get_or HasLabelsWithinLimits (sings t) nil (λ k l.
    let e = dia-sing d t h k l in
    from_diagram d (sing_at t k) (h.sings_are k l) (subst (Valid d) e (v.sings k (omega arith)))
    (subst (DiagramWithin d) e (sing_within d X w k (omega arith)))) in
    let fs : All HasLabelsWithinLimits (fwds t) = All-from_get_or HasLabelsWithinLimits (fwds t) nil (λ k l.
    let e = dia-fwd d t h k (omega arith) in
    from_arrow d (get_or (fwds t) k nil) (h.fwds_are k (omega arith)) (subst (ArrowWithin d) e (arrow_within d (reg d X k) (sing d X k) (fwd d X k)
    (v.fwds k (omega arith)) (reg_within d X w k (omega arith)) (sing_within d X w k (omega arith))))) in
    let bs : All HasLabelsWithinLimits (bwds t) = All-from_get_or HasLabelsWithinLimits (bwds t) nil (λ k l.
    let e = dia-bwd d t h k (omega arith) in
    from_arrow d (get_or (bwds t) k nil) (h.bwds_are k (omega arith)) (subst (ArrowWithin d) e (arrow_within d (reg d X (suc k)) (sing d X k) (bwd d X k)
    (v.bwds k (omega arith)) (reg_within d X w (suc k) (omega arith)) (sing_within d X w k (omega arith))))) in
    from_children t (diagram_completed (suc d) t h) (none_own t (ap own_labels h.is_zig ∙ own-zig (regs t) (sings t) (fwds t) (bwds t)))
    (subst (All HasLabelsWithinLimits) (sym (ap children h.is_zig ∙ children-zig (regs t) (sings t) (fwds t) (bwds t)))
    (All-append HasLabelsWithinLimits (regs t ++ sings t ++ fwds t) (bwds t)
    (All-append HasLabelsWithinLimits (regs t ++ sings t) (fwds t) (All-append HasLabelsWithinLimits (regs t) (sings t) rs ss) fs) bs))
