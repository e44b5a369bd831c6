use Rattle.std.proofs.Common.{◌≡◌, ◌+◌, ◌∙◌, ◌++◌, ◌∷◌, [], List, length, subst, sym, ap, arith, Some}
use Rattle.std.proofs.lemmas.List.{length_push}
use Rattle.workspace_json.specs.Sessions.{redone}
use Rattle.session_state.specs.declared.edit.Edit.{Edit}
use Rattle.workspace_lists.specs.Held.{Lists}
use Rattle.session_state.specs.Edits.{LeadsForth}
use Rattle.session_state.specs.Kinds.{of_diagrams, of_generators, of_maps, puts, total_put}
use Rattle.session_state.specs.Signing.{followed_forth}
use Rattle.session_state.specs.States.{IsHistory, entries_over, lists_of, session_over}
use Rattle.session_state.proofs.EditsBack.{all_last}
use Rattle.session_state.proofs.Histories.{next_fits, next_good, session_forth, turned_forth}
use Rattle.session_state.proofs.OppositeEdits.{balanced, total_put-push}
use Rattle.session_state.proofs.StateInvariant.{can_follow_forth, follows_forth, room_for, told}
use Rattle.session_state.proofs.state.State.redo.Goals as goal

pub follow_forth-requires : goal.follow_forth-requires
follow_forth-requires c =
    let s = c.args.self.now in
    let e = c.take_last-edit.result in
    let fs = c.take_last-edit.new.self.items in
    let h : IsHistory s.store s.entries.names (lists_of s.entries) s.past.items (fs ++ e ∷ []) =
    subst (λ (xs : List Edit). IsHistory s.store s.entries.names (lists_of s.entries) s.past.items xs) c.take_last-edit.ensures.items c.requires.history in
    let generators_put : total_put of_generators s.future.items ≡ total_put of_generators fs + puts of_generators e = ap (total_put of_generators) c.take_last-edit.ensures.items ∙ total_put-push of_generators fs e in
    let spare = c.requires.room.spare in
    can_follow_forth s.store s.entries.names (lists_of s.entries) e s.signature c.requires.generators (omega arith)
    (next_good s.store s.entries.names (lists_of s.entries) e fs h.after)

pub make-back-requires : goal.make-back-requires
make-back-requires c =
    let s = c.args.self.now in
    let e = c.take_last-edit.result in
    let fs = c.take_last-edit.new.self.items in
    let h : IsHistory s.store s.entries.names (lists_of s.entries) s.past.items (fs ++ e ∷ []) =
    subst (λ (xs : List Edit). IsHistory s.store s.entries.names (lists_of s.entries) s.past.items xs) c.take_last-edit.ensures.items c.requires.history in
    let generators_put : total_put of_generators s.future.items ≡ total_put of_generators fs + puts of_generators e = ap (total_put of_generators) c.take_last-edit.ensures.items ∙ total_put-push of_generators fs e in
    let diagrams_put : total_put of_diagrams s.future.items ≡ total_put of_diagrams fs + puts of_diagrams e = ap (total_put of_diagrams) c.take_last-edit.ensures.items ∙ total_put-push of_diagrams fs e in
    let maps_put : total_put of_maps s.future.items ≡ total_put of_maps fs + puts of_maps e = ap (total_put of_maps) c.take_last-edit.ensures.items ∙ total_put-push of_maps fs e in
    let generators = c.requires.room.generators in
    let diagrams = c.requires.room.diagrams in
    let maps = c.requires.room.maps in
    record {
      within = (next_fits s.store (lists_of s.entries) e fs h.forth_fits).within;
      room = room_for s.entries.workspace e (omega arith) (omega arith) (omega arith);
      known_before = h.present.known;
      known_after = (next_good s.store s.entries.names (lists_of s.entries) e fs h.after).known;
    }

pub returns-clause-state : goal.returns-clause-state
returns-clause-state c =
    let s = c.args.self.now in
    let e = c.take_last-edit.result in
    let fs = c.take_last-edit.new.self.items in
    let i = c.make-back.result in
    let es = s.past.items in
    let l = lists_of s.entries in
    let made = c.make-back.ensures.lists in
    let h : IsHistory s.store s.entries.names l es (fs ++ e ∷ []) =
    subst (λ (xs : List Edit). IsHistory s.store s.entries.names l es xs) c.take_last-edit.ensures.items c.requires.history in
    let fits = next_fits s.store l e fs h.forth_fits in
    let there = next_good s.store s.entries.names l e fs h.after in
    let forth = all_last LeadsForth fs e h.forth in
    let telling = told s.store s.entries c.make-back.new.self e i made (c.make-back.ensures.names s.store) c.requires.names fits.type_of h.present there in
    let generators_stay = balanced of_generators l e i fits.within c.make-back.ensures.opposite in
    let diagrams_stay = balanced of_diagrams l e i fits.within c.make-back.ensures.opposite in
    let maps_stay = balanced of_maps l e i fits.within c.make-back.ensures.opposite in
    let lens = ap length c.take_last-edit.ensures.items ∙ length_push fs e in
    let lens' : length c.push_reserved.new.self.items ≡ length es + 1 = ap length c.push_reserved.ensures.items ∙ length_push es i in
    let generators_put : total_put of_generators s.future.items ≡ total_put of_generators fs + puts of_generators e = ap (total_put of_generators) c.take_last-edit.ensures.items ∙ total_put-push of_generators fs e in
    let diagrams_put : total_put of_diagrams s.future.items ≡ total_put of_diagrams fs + puts of_diagrams e = ap (total_put of_diagrams) c.take_last-edit.ensures.items ∙ total_put-push of_diagrams fs e in
    let diagrams_put' : total_put of_diagrams c.push_reserved.new.self.items ≡ total_put of_diagrams es + puts of_diagrams i = ap (total_put of_diagrams) c.push_reserved.ensures.items ∙ total_put-push of_diagrams es i in
    let maps_put : total_put of_maps s.future.items ≡ total_put of_maps fs + puts of_maps e = ap (total_put of_maps) c.take_last-edit.ensures.items ∙ total_put-push of_maps fs e in
    let maps_put' : total_put of_maps c.push_reserved.new.self.items ≡ total_put of_maps es + puts of_maps i = ap (total_put of_maps) c.push_reserved.ensures.items ∙ total_put-push of_maps es i in
    let gens = ap (λ (m : Lists). length m.generators) made in
    let dias = ap (λ (m : Lists). length m.diagrams) made in
    let maps = ap (λ (m : Lists). length m.maps) made in
    let room = c.requires.room in
    record {
      generators = c.follow_forth.ensures.entries ∙ ap (λ es. followed_forth s.store es e) c.requires.generators ∙ follows_forth s.store s.entries.names l e forth there ∙ sym (ap (λ (m : Lists). entries_over m.generators) made);
      names = telling.tell;
      history = subst (λ (xs : List Edit). IsHistory s.store c.make-back.new.self.names (lists_of c.make-back.new.self) xs fs) (sym c.push_reserved.ensures.items)
          (turned_forth s.store s.entries.names c.make-back.new.self.names (λ name k. c.make-back.ensures.places name ∙ k) l (lists_of c.make-back.new.self) e i made c.make-back.ensures.back
          es fs c.make-back.ensures.opposite c.make-back.ensures.within telling.type_of h);
      room = record {
        past = let k = c.push_reserved.ensures.capacity in let r = room.past in omega arith;
        future = let k = c.take_last-edit.ensures.capacity in let r = room.future in omega arith;
        generators = let k = c.make-back.ensures.generators in let r = room.generators in omega arith;
        diagrams = let k = c.make-back.ensures.diagrams in let r = room.diagrams in omega arith;
        maps = let k = c.make-back.ensures.maps in let r = room.maps in omega arith;
        spare = let k = c.follow_forth.ensures.spare in let r = room.spare in omega arith;
      };
    }

pub returns-clause-redone : goal.returns-clause-redone
returns-clause-redone c =
    let s = c.args.self.now in
    let e = c.take_last-edit.result in
    let fs = c.take_last-edit.new.self.items in
    let i = c.make-back.result in
    let es = s.past.items in
    ap (λ (xs : List Edit). redone (session_over s.store (lists_of s.entries) es xs)) c.take_last-edit.ensures.items
    ∙ session_forth s.store (lists_of s.entries) (lists_of c.make-back.new.self) e i c.make-back.ensures.lists c.make-back.ensures.back es fs
    ∙ ap (λ (xs : List Edit). Some (session_over s.store (lists_of c.make-back.new.self) xs fs)) (sym c.push_reserved.ensures.items)
