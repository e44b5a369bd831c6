use Rattle.std.proofs.Common.{◌≡◌, ◌+◌, ◌∙◌, ◌++◌, ◌∷◌, [], List, length, subst, sym, ap, arith, Some}
use Rattle.std.proofs.lemmas.List.{length_push}
use Rattle.workspace_json.specs.Sessions.{undone}
use Rattle.session_state.specs.declared.edit.Edit.{Edit}
use Rattle.workspace_lists.specs.Held.{Lists}
use Rattle.session_state.specs.Edits.{LeadsBack}
use Rattle.session_state.specs.Kinds.{of_diagrams, of_generators, of_maps, puts, total_put}
use Rattle.session_state.specs.Signing.{followed_back}
use Rattle.session_state.specs.States.{IsHistory, entries_over, lists_of, session_over}
use Rattle.session_state.proofs.EditsBack.{all_last}
use Rattle.session_state.proofs.Histories.{next_fits, next_good, session_back, turned_back}
use Rattle.session_state.proofs.OppositeEdits.{balanced, total_put-push}
use Rattle.session_state.proofs.StateInvariant.{can_follow_back, follows_back, room_for, told}
use Rattle.session_state.proofs.state.State.undo.Goals as goal

pub follow_back-requires : goal.follow_back-requires
follow_back-requires c =
    let s = c.args.self.now in
    let e = c.take_last-edit.result in
    let es = c.take_last-edit.new.self.items in
    let h : IsHistory s.store s.entries.names (lists_of s.entries) (es ++ e ∷ []) s.future.items =
    subst (λ (xs : List Edit). IsHistory s.store s.entries.names (lists_of s.entries) xs s.future.items) c.take_last-edit.ensures.items c.requires.history in
    can_follow_back (lists_of s.entries) e s.signature c.requires.generators (next_fits s.store (lists_of s.entries) e es h.back_fits).within

pub make-forth-requires : goal.make-forth-requires
make-forth-requires c =
    let s = c.args.self.now in
    let e = c.take_last-edit.result in
    let es = c.take_last-edit.new.self.items in
    let h : IsHistory s.store s.entries.names (lists_of s.entries) (es ++ e ∷ []) s.future.items =
    subst (λ (xs : List Edit). IsHistory s.store s.entries.names (lists_of s.entries) xs s.future.items) c.take_last-edit.ensures.items c.requires.history in
    let none : puts of_generators e ≡ 0 = all_last LeadsBack es e h.back in
    let diagrams_put : total_put of_diagrams s.past.items ≡ total_put of_diagrams es + puts of_diagrams e = ap (total_put of_diagrams) c.take_last-edit.ensures.items ∙ total_put-push of_diagrams es e in
    let maps_put : total_put of_maps s.past.items ≡ total_put of_maps es + puts of_maps e = ap (total_put of_maps) c.take_last-edit.ensures.items ∙ total_put-push of_maps es e in
    let generators = c.requires.room.generators in
    let diagrams = c.requires.room.diagrams in
    let maps = c.requires.room.maps in
    record {
      within = (next_fits s.store (lists_of s.entries) e es h.back_fits).within;
      room = room_for s.entries.workspace e (omega arith) (omega arith) (omega arith);
      known_before = h.present.known;
      known_after = (next_good s.store s.entries.names (lists_of s.entries) e es h.before).known;
    }

pub returns-clause-state : goal.returns-clause-state
returns-clause-state c =
    let s = c.args.self.now in
    let e = c.take_last-edit.result in
    let es = c.take_last-edit.new.self.items in
    let i = c.make-forth.result in
    let fs = s.future.items in
    let l = lists_of s.entries in
    let made = c.make-forth.ensures.lists in
    let h : IsHistory s.store s.entries.names l (es ++ e ∷ []) fs =
    subst (λ (xs : List Edit). IsHistory s.store s.entries.names l xs fs) c.take_last-edit.ensures.items c.requires.history in
    let fits = next_fits s.store l e es h.back_fits in
    let back = all_last LeadsBack es e h.back in
    let telling = told s.store s.entries c.make-forth.new.self e i made (c.make-forth.ensures.names s.store) c.requires.names fits.type_of h.present
    (next_good s.store s.entries.names l e es h.before) in
    let generators_stay = balanced of_generators l e i fits.within c.make-forth.ensures.opposite in
    let diagrams_stay = balanced of_diagrams l e i fits.within c.make-forth.ensures.opposite in
    let maps_stay = balanced of_maps l e i fits.within c.make-forth.ensures.opposite in
    let taken = c.make-forth.ensures.opposite.put of_generators in
    let lens = ap length c.take_last-edit.ensures.items ∙ length_push es e in
    let lens' : length c.push_reserved.new.self.items ≡ length fs + 1 = ap length c.push_reserved.ensures.items ∙ length_push fs i in
    let diagrams_put : total_put of_diagrams s.past.items ≡ total_put of_diagrams es + puts of_diagrams e = ap (total_put of_diagrams) c.take_last-edit.ensures.items ∙ total_put-push of_diagrams es e in
    let diagrams_put' : total_put of_diagrams c.push_reserved.new.self.items ≡ total_put of_diagrams fs + puts of_diagrams i = ap (total_put of_diagrams) c.push_reserved.ensures.items ∙ total_put-push of_diagrams fs i in
    let maps_put : total_put of_maps s.past.items ≡ total_put of_maps es + puts of_maps e = ap (total_put of_maps) c.take_last-edit.ensures.items ∙ total_put-push of_maps es e in
    let maps_put' : total_put of_maps c.push_reserved.new.self.items ≡ total_put of_maps fs + puts of_maps i = ap (total_put of_maps) c.push_reserved.ensures.items ∙ total_put-push of_maps fs i in
    let none : puts of_generators e ≡ 0 = back in
    let generators_put' : total_put of_generators c.push_reserved.new.self.items ≡ total_put of_generators fs + puts of_generators i = ap (total_put of_generators) c.push_reserved.ensures.items ∙ total_put-push of_generators fs i in
    let gens = ap (λ (m : Lists). length m.generators) made in
    let dias = ap (λ (m : Lists). length m.diagrams) made in
    let maps = ap (λ (m : Lists). length m.maps) made in
    let room = c.requires.room in
    record {
      generators = c.follow_back.ensures.entries ∙ ap (λ es. followed_back es e) c.requires.generators ∙ follows_back l e back ∙ sym (ap (λ (m : Lists). entries_over m.generators) made);
      names = telling.tell;
      history = subst (λ (xs : List Edit). IsHistory s.store c.make-forth.new.self.names (lists_of c.make-forth.new.self) es xs) (sym c.push_reserved.ensures.items)
          (turned_back s.store s.entries.names c.make-forth.new.self.names (λ name k. c.make-forth.ensures.places name ∙ k) l (lists_of c.make-forth.new.self) e i made c.make-forth.ensures.back
          es fs c.make-forth.ensures.opposite c.make-forth.ensures.within telling.type_of h);
      room = record {
        past = let k = c.take_last-edit.ensures.capacity in let r = room.past in omega arith;
        future = let k = c.push_reserved.ensures.capacity in let r = room.future in omega arith;
        generators = let k = c.make-forth.ensures.generators in let r = room.generators in omega arith;
        diagrams = let k = c.make-forth.ensures.diagrams in let r = room.diagrams in omega arith;
        maps = let k = c.make-forth.ensures.maps in let r = room.maps in omega arith;
        spare = let k = c.follow_back.ensures.spare in let r = room.spare in omega arith;
      };
    }

pub returns-clause-undone : goal.returns-clause-undone
returns-clause-undone c =
    let s = c.args.self.now in
    let e = c.take_last-edit.result in
    let es = c.take_last-edit.new.self.items in
    let i = c.make-forth.result in
    let fs = s.future.items in
    ap (λ (xs : List Edit). undone (session_over s.store (lists_of s.entries) xs fs)) c.take_last-edit.ensures.items
    ∙ session_back s.store (lists_of s.entries) (lists_of c.make-forth.new.self) e i c.make-forth.ensures.lists c.make-forth.ensures.back es fs
    ∙ ap (λ (xs : List Edit). Some (session_over s.store (lists_of c.make-forth.new.self) es xs)) (sym c.push_reserved.ensures.items)
