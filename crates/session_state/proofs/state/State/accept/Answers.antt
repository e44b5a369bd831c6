use Rattle.std.proofs.Common.{◌≡◌, ◌+◌, ◌∙◌, [], List, length, subst, sym, ap, arith}
use Rattle.std.proofs.lemmas.List.{length_push}
use Rattle.session_state.specs.declared.edit.Edit.{Edit}
use Rattle.workspace_lists.specs.Held.{Lists}
use Rattle.session_state.specs.Kinds.{of_diagrams, of_generators, of_maps, puts, total_put}
use Rattle.session_state.specs.States.{IsHistory, entries_over, lists_of, session_over}
use Rattle.session_state.proofs.Histories.{session_anew, turned_anew}
use Rattle.session_state.proofs.OppositeEdits.{balanced, held_after, total_put-push}
use Rattle.session_state.proofs.StateInvariant.{room_for, told}
use Rattle.session_state.proofs.state.State.accept.Goals as goal

pub make-back-requires : goal.make-back-requires
make-back-requires c =
    let can = c.requires.can in
    let room = c.requires.room in
    let e = c.args.edit in
    let l = lists_of c.args.self.now.entries in
    let longer = held_after of_generators l e can.fits.within in
    let forth = can.forth in
    record {
      within = can.fits.within;
      room = room_for c.args.self.now.entries.workspace e (let r = room.generators in omega arith) (let r = room.diagrams in omega arith) (let r = room.maps in omega arith);
      known_before = can.history.present.known;
      known_after = can.good.known;
    }

pub returns-clause-state : goal.returns-clause-state
returns-clause-state c =
    let s = c.args.self.now in
    let e = c.args.edit in
    let i = c.make-back.result in
    let es = s.past.items in
    let l = lists_of s.entries in
    let can = c.requires.can in
    let made = c.make-back.ensures.lists in
    let telling = told s.store s.entries c.make-back.new.self e i made (c.make-back.ensures.names s.store) can.names can.fits.type_of can.history.present can.good in
    let diagrams_stay = balanced of_diagrams l e i can.fits.within c.make-back.ensures.opposite in
    let maps_stay = balanced of_maps l e i can.fits.within c.make-back.ensures.opposite in
    let lens' : length c.push_reserved.new.self.items ≡ length es + 1 = ap length c.push_reserved.ensures.items ∙ length_push es i in
    let diagrams_put : total_put of_diagrams c.push_reserved.new.self.items ≡ total_put of_diagrams es + puts of_diagrams i = ap (total_put of_diagrams) c.push_reserved.ensures.items ∙ total_put-push of_diagrams es i in
    let maps_put : total_put of_maps c.push_reserved.new.self.items ≡ total_put of_maps es + puts of_maps i = ap (total_put of_maps) c.push_reserved.ensures.items ∙ total_put-push of_maps es i in
    let gens = ap (λ (m : Lists). length m.generators) made in
    let dias = ap (λ (m : Lists). length m.diagrams) made in
    let maps = ap (λ (m : Lists). length m.maps) made in
    let none : total_put of_generators c.clear.new.self.items ≡ 0 = ap (total_put of_generators) c.clear.ensures.items in
    let no_diagram : total_put of_diagrams c.clear.new.self.items ≡ 0 = ap (total_put of_diagrams) c.clear.ensures.items in
    let no_map : total_put of_maps c.clear.new.self.items ≡ 0 = ap (total_put of_maps) c.clear.ensures.items in
    let short : length c.clear.new.self.items ≡ 0 = ap length c.clear.ensures.items in
    let room = c.requires.room in
    record {
      generators = can.generators ∙ sym (ap (λ (m : Lists). entries_over m.generators) made);
      names = telling.tell;
      history =
          subst (λ (xs : List Edit). IsHistory s.store c.make-back.new.self.names (lists_of c.make-back.new.self) c.push_reserved.new.self.items xs) (sym c.clear.ensures.items)
          (subst (λ (xs : List Edit). IsHistory s.store c.make-back.new.self.names (lists_of c.make-back.new.self) xs []) (sym c.push_reserved.ensures.items)
          (turned_anew s.store s.entries.names c.make-back.new.self.names (λ name k. c.make-back.ensures.places name ∙ k) l (lists_of c.make-back.new.self) e i made c.make-back.ensures.back
          es s.future.items can.forth c.make-back.ensures.opposite c.make-back.ensures.within telling.type_of can.good can.history));
      room = record {
        past = let k = c.push_reserved.ensures.capacity in let r = room.past in omega arith;
        future = let k = c.clear.ensures.capacity in let r = room.future in omega arith;
        generators = let k = c.make-back.ensures.generators in let r = room.generators in omega arith;
        diagrams = let k = c.make-back.ensures.diagrams in let r = room.diagrams in omega arith;
        maps = let k = c.make-back.ensures.maps in let r = room.maps in omega arith;
        spare = omega arith;
      };
    }

pub returns-clause-session : goal.returns-clause-session
returns-clause-session c =
    let s = c.args.self.now in
    let e = c.args.edit in
    let i = c.make-back.result in
    (λ j. session_over s.store (lists_of c.make-back.new.self) (c.push_reserved.ensures.items j) (c.clear.ensures.items j))
    ∙ session_anew s.store (lists_of s.entries) (lists_of c.make-back.new.self) e i c.make-back.ensures.lists c.make-back.ensures.back s.past.items s.future.items
