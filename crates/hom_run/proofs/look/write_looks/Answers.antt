use Rattle.std.proofs.Common.{◌≡◌, ◌≤◌, ◌<◌, ◌+◌, ◌∙◌, List, [], ◌∷◌, length, get_or, drop, Err, refl, sym, ap, subst, true≢false, arith}
use Rattle.std.proofs.lemmas.Result.{err_from_is_err_and}
use Rattle.diagram_terms.specs.declared.node.Node.{Node}
use Rattle.diagram_terms.specs.Nodes.{tree_at}
use Rattle.hashcons.specs.Ids.{GathersIds}
use Rattle.hashcons.proofs.PlacedIds.{ids-grow}
use Rattle.node_json.specs.declared.document.DiagramEntry.{DiagramEntry}
use Rattle.io_edge.specs.declared.whole.WriteAllFault.TheVariants.{WriteFault}
use Rattle.io_edge.proofs.Parts.{begun, not_begun, ended, cut_off, stopped, one_more}
use Rattle.io_edge.proofs.Rises.{Rose-within}
use Rattle.hom_run.specs.Full.{Answer, is_yes, line, look_reply, replied}
use Rattle.hom_run.proofs.Looks.{grown_is_store, entry_place, read_kind, entry_of_store, entry_dim, entry_reply}
use Rattle.hom_run.proofs.Lines.{on_err, same_error, entry_answers, next_entry, next_lines, more_status, reply_line, reply_good, last_status, all_written}
use Rattle.hom_run.proofs.look.write_looks.Goals as goal
use Rattle.hom_run.proofs.look.write_looks.Goals.{then-not-is_yes, else-not-is_yes}

pub loop-entry-init : goal.loop-entry-init
loop-entry-init g c = record {
  under_way = begun _ _;
  status = refl;
  later = omega arith;
  ids = subst (λ (ns : List Node). GathersIds c.put_nodes.new.self c.in_ok-ids.ids.items (length ns) (tree_at ns)) c.as_slice.ensures c.in_ok-ids.ensures.ids;
  store = grown_is_store _ _ c.new-store.ensures c.in_ok-ids.ensures.grows;
}

pub diagram_of-diagram-requires : goal.diagram_of-diagram-requires
diagram_of-diagram-requires g c =
    let d = c.args.document.now in
    let inv = c.loop-entry.invariant in
    let entry = c.entry-item.result in
    let items = c.as_slice-entry-items.ensures in
    let within : c.loop-entry.entry-index < length d.diagrams = omega (arith, ap length items) in
    let is : entry ≡ get_or d.diagrams c.loop-entry.entry-index entry =
    c.entry-item.is ∙ ap (λ (es : List DiagramEntry). get_or es c.loop-entry.entry-index entry) items in
    let place = entry_place d c.requires c.loop-entry.entry-index entry within is in
    read_kind d.nodes c.requires.nodes c.loop-entry.store c.in_ok-ids.ids.items inv.ids inv.store entry.root place c.index.result.now c.index.ensures

pub looked_at-requires-clause-of_store : goal.looked_at-requires-clause-of_store
looked_at-requires-clause-of_store g c =
    let d = c.args.document.now in
    let inv = c.loop-entry.invariant in
    let entry = c.entry-item.result in
    let items = c.as_slice-entry-items.ensures in
    let within : c.loop-entry.entry-index < length d.diagrams = omega (arith, ap length items) in
    let is : entry ≡ get_or d.diagrams c.loop-entry.entry-index entry =
    c.entry-item.is ∙ ap (λ (es : List DiagramEntry). get_or es c.loop-entry.entry-index entry) items in
    let place = entry_place d c.requires c.loop-entry.entry-index entry within is in
    entry_of_store d.nodes c.requires.nodes c.loop-entry.store c.in_ok-ids.ids.items inv.ids inv.store entry place c.index.result.now _ c.index.ensures c.diagram_of-diagram.ensures

pub looked_at-requires-clause-dim : goal.looked_at-requires-clause-dim
looked_at-requires-clause-dim g c =
    let d = c.args.document.now in
    let inv = c.loop-entry.invariant in
    let entry = c.entry-item.result in
    let items = c.as_slice-entry-items.ensures in
    let within : c.loop-entry.entry-index < length d.diagrams = omega (arith, ap length items) in
    let is : entry ≡ get_or d.diagrams c.loop-entry.entry-index entry =
    c.entry-item.is ∙ ap (λ (es : List DiagramEntry). get_or es c.loop-entry.entry-index entry) items in
    let place = entry_place d c.requires c.loop-entry.entry-index entry within is in
    entry_dim d.nodes c.requires.nodes c.loop-entry.store c.in_ok-ids.ids.items inv.ids inv.store entry place c.index.result.now _ c.index.ensures c.diagram_of-diagram.ensures

pub returns-in_err-ids-clause-err : goal.returns-in_err-ids-clause-err
returns-in_err-ids-clause-err g c = on_err _ (not_begun _ _)

pub returns-in_err-reply-clause-err : goal.returns-in_err-reply-clause-err
returns-in_err-reply-clause-err g c =
    let d = c.args.document.now in
    on_err _ (stopped _ _ _ _ c.loop-entry.invariant.under_way)

pub returns-in_err-reply_text-clause-err : goal.returns-in_err-reply_text-clause-err
returns-in_err-reply_text-clause-err g c =
    let d = c.args.document.now in
    on_err _ (stopped _ _ _ _ c.loop-entry.invariant.under_way)

pub returns-in_err-write_line-clause-err : goal.returns-in_err-write_line-clause-err
returns-in_err-write_line-clause-err g c =
    let d = c.args.document.now in
    let i = c.loop-entry.entry-index in
    let entry = c.entry-item.result in
    let items = c.as_slice-entry-items.ensures in
    let within : i < length d.diagrams = omega (arith, ap length items) in
    let is : entry ≡ get_or d.diagrams i entry = c.entry-item.is ∙ ap (λ (es : List DiagramEntry). get_or es i entry) items in
    let inv = c.loop-entry.invariant in
    let place = entry_place d c.requires i entry within is in
    let reply_is : c.in_ok-reply.reply ≡ look_reply d.nodes entry =
    entry_reply d.nodes c.requires.nodes c.loop-entry.store c.in_ok-ids.ids.items inv.ids inv.store entry place c.index.result.now _ c.index.ensures c.diagram_of-diagram.ensures
    c.in_ok-reply.reply c.in_ok-reply.ensures.reply in
    let reply = c.in_ok-reply.reply in
    let text = c.in_ok-reply_text.field-0.items in
    let split = next_entry d.nodes d.diagrams i entry within is reply reply_is in
    let here : List Answer = replied reply ∷ [] in
    let more = entry_answers d.nodes (drop (i + 1) d.diagrams) in
    let so_far = next_lines _ here more split _ _ (line text) _ (reply_line text reply c.in_ok-reply_text.ensures) inv.under_way in
    on_err _ (cut_off _ _ _ _ _ _ c.in_err-write_line.ensures.err so_far)

pub loop-entry-preserved : goal.loop-entry-preserved
loop-entry-preserved g c =
    let d = c.args.document.now in
    let i = c.loop-entry.entry-index in
    let entry = c.entry-item.result in
    let items = c.as_slice-entry-items.ensures in
    let within : i < length d.diagrams = omega (arith, ap length items) in
    let is : entry ≡ get_or d.diagrams i entry = c.entry-item.is ∙ ap (λ (es : List DiagramEntry). get_or es i entry) items in
    let inv = c.loop-entry.invariant in
    let place = entry_place d c.requires i entry within is in
    let reply_is : c.in_ok-reply.reply ≡ look_reply d.nodes entry =
    entry_reply d.nodes c.requires.nodes c.loop-entry.store c.in_ok-ids.ids.items inv.ids inv.store entry place c.index.result.now _ c.index.ensures c.diagram_of-diagram.ensures
    c.in_ok-reply.reply c.in_ok-reply.ensures.reply in
    let reply = c.in_ok-reply.reply in
    let text = c.in_ok-reply_text.field-0.items in
    let split = next_entry d.nodes d.diagrams i entry within is reply reply_is in
    let here : List Answer = replied reply ∷ [] in
    let more = entry_answers d.nodes (drop (i + 1) d.diagrams) in
    let so_far = next_lines _ here more split _ _ (line text) _ (reply_line text reply c.in_ok-reply_text.ensures) inv.under_way in
    record {
      under_way = one_more _ _ _ _ _ _ c.in_ok-write_line.ensures.ok so_far;
      status = elim c.if-not-is_yes.branch [
        | then-not-is_yes w ↦ more_status _ here more split c.loop-entry.status c.if-not-is_yes.status _ (is_yes reply) (reply_good _ reply refl)
            (λ p. absurd (true≢false (sym p ∙ sym c.is_yes.ensures ∙ w.if-not-is_yes.true)))
            (λ p. w.status-is)
            inv.status
        | else-not-is_yes w ↦ more_status _ here more split c.loop-entry.status c.if-not-is_yes.status _ (is_yes reply) (reply_good _ reply refl)
            (λ p. w.status-is)
            (λ p. absurd (true≢false (sym w.if-not-is_yes.false ∙ c.is_yes.ensures ∙ p)))
            inv.status
      ];
      later = omega (arith, c.in_ok-write_line.ensures.later);
      ids = ids-grow c.loop-entry.store _ c.in_ok-ids.ids.items (length d.nodes) (tree_at d.nodes) c.in_ok-reply.ensures.grows inv.ids;
      store = c.in_ok-reply.ensures.grows.store inv.store;
    }

pub returns-clause-ok : goal.returns-clause-ok
returns-clause-ok g c =
    let d = c.args.document.now in
    let past : length d.diagrams ≤ c.loop-entry.entry-index = omega (arith, ap length c.as_slice-entry-items.ensures) in
    last_status (entry_answers d.nodes) d.diagrams c.loop-entry.entry-index past refl c.loop-entry.status _ c.loop-entry.invariant.status

pub returns-clause-wrote : goal.returns-clause-wrote
returns-clause-wrote g c =
    let d = c.args.document.now in
    let past : length d.diagrams ≤ c.loop-entry.entry-index = omega (arith, ap length c.as_slice-entry-items.ensures) in
    ended _ _ _ (all_written (entry_answers d.nodes) d.diagrams c.loop-entry.entry-index past refl _ _ _ c.loop-entry.invariant.under_way)

pub returns-in_err-write_line-clause-cause : goal.returns-in_err-write_line-clause-cause
returns-in_err-write_line-clause-cause g c = λ e.
    let p = err_from_is_err_and c.from_residual-in_err-write_line.result c.from_residual-in_err-write_line.ensures.1 in
    let same : c.in_err-write_line.field-0.0 ≡ WriteFault = sym p.2 ∙ same_error _ _ _ p.1 e in
    Rose-within _ _ _ _ c.loop-entry.invariant.later c.in_err-write_line.ensures.later (c.in_err-write_line.ensures.cause (ap Err same)) (omega arith)
