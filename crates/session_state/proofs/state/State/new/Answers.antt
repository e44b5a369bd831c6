use Rattle.std.proofs.Common.{◌∙◌, length, sym, ap, arith}
use Rattle.session_state.specs.Kinds.{of_diagrams, of_generators, of_maps, total_put}
use Rattle.session_state.specs.States.{entries_over}
use Rattle.session_state.proofs.StateInvariant.{history_of_nothing, tell_nothing}
use Rattle.session_state.proofs.state.State.new.Goals as goal

pub returns-clause-state : goal.returns-clause-state
returns-clause-state c =
    let g = c.new-3.ensures.items in
    let d = c.new-4.ensures.items in
    let m = c.new-5.ensures.items in
    let past = c.new-7.ensures.items in
    let future = c.new-8.ensures.items in
    let none = ap length past in
    let left = ap length future in
    record {
      generators = ap (λ s. s.entries) c.new-2.ensures ∙ sym (ap entries_over g);
      names = tell_nothing c.new.result c.new-6.result c.new-3.result.items c.new-4.result.items c.new-5.result.items g d m c.new-6.ensures;
      history = history_of_nothing c.new.result c.new-6.result c.new-3.result.items c.new-4.result.items c.new-5.result.items c.new-7.result.items c.new-8.result.items g d m past future;
      room = record {
        past = omega arith;
        future = omega arith;
        generators = let n = ap length g in let k = ap (total_put of_generators) future in omega arith;
        diagrams = let n = ap length d in let k = ap (total_put of_diagrams) past in let l = ap (total_put of_diagrams) future in omega arith;
        maps = let n = ap length m in let k = ap (total_put of_maps) past in let l = ap (total_put of_maps) future in omega arith;
        spare = let k = ap (total_put of_generators) future in omega arith;
      };
    }
