use Rattle.std.proofs.Common.{◌∙◌, sym, ap}
use Rattle.hashcons.proofs.Growth.{Grows-trans}
use Rattle.zigzag_maps.specs.Visits.{fault_of}
use Rattle.session_undo.proofs.MapFaults.{place_found}
use Rattle.session_undo.proofs.maps.first_bad_place.Goals as goal

pub returns-in_err-place-2-clause-grows : goal.returns-in_err-place-2-clause-grows
returns-in_err-place-2-clause-grows c = Grows-trans _ _ _ c.end_fault.ensures.grows c.end_fault-2.ensures.grows

pub returns-in-Some-2-clause-grows : goal.returns-in-Some-2-clause-grows
returns-in-Some-2-clause-grows c = Grows-trans _ _ _ c.end_fault.ensures.grows c.end_fault-2.ensures.grows

pub squares-requires-clause-arrow : goal.squares-requires-clause-arrow
squares-requires-clause-arrow c = c.end_fault-2.ensures.grows.arrows c.args.map.now.arrow (c.end_fault.ensures.grows.arrows c.args.map.now.arrow c.requires.arrow)

pub returns-in_err-squares-clause-grows : goal.returns-in_err-squares-clause-grows
returns-in_err-squares-clause-grows c = Grows-trans _ _ _ (Grows-trans _ _ _ c.end_fault.ensures.grows c.end_fault-2.ensures.grows) c.squares.ensures.grows

pub returns-in-Valid-clause-exact : goal.returns-in-Valid-clause-exact
returns-in-Valid-clause-exact c =
    place_found c.args.store.now c.end_fault.new.store c.end_fault-2.new.store c.end_fault.ensures.grows c.end_fault-2.ensures.grows c.args.map.now c.requires _
    (sym c.in_ok-place.ensures.exact ∙ c.in_default.is) (sym c.in_ok-place-2.ensures.exact ∙ c.in_default-2.is)
    (ap fault_of (sym c.in-Valid.is) ∙ c.in_ok-squares.ensures.exact)

pub returns-in-Valid-clause-grows : goal.returns-in-Valid-clause-grows
returns-in-Valid-clause-grows c = Grows-trans _ _ _ (Grows-trans _ _ _ c.end_fault.ensures.grows c.end_fault-2.ensures.grows) c.squares.ensures.grows

pub returns-in-Fault-clause-exact : goal.returns-in-Fault-clause-exact
returns-in-Fault-clause-exact c =
    place_found c.args.store.now c.end_fault.new.store c.end_fault-2.new.store c.end_fault.ensures.grows c.end_fault-2.ensures.grows c.args.map.now c.requires _
    (sym c.in_ok-place.ensures.exact ∙ c.in_default.is) (sym c.in_ok-place-2.ensures.exact ∙ c.in_default-2.is)
    (ap fault_of (sym c.in-Fault.is) ∙ c.in_ok-squares.ensures.exact)

pub returns-in-Fault-clause-grows : goal.returns-in-Fault-clause-grows
returns-in-Fault-clause-grows c = Grows-trans _ _ _ (Grows-trans _ _ _ c.end_fault.ensures.grows c.end_fault-2.ensures.grows) c.squares.ensures.grows

pub returns-in-Valid-clause-valid : goal.returns-in-Valid-clause-valid
returns-in-Valid-clause-valid c = λ none. c.in_ok-squares.ensures.yes.0 c.in-Valid.is
