-- The first bad place of an arrow between two trees, and of a diagram's tree.
use Rattle.std.specs.Prelude.{[], List, ◌&&◌, nat_eq, if◌then◌else◌, Option, Some}
use Rattle.diagram_terms.specs.declared.place.Place.{Place}
use Rattle.diagram_terms.specs.declared.place.End.TheVariants as at_end
use Rattle.diagram_terms.specs.Tree.{Tree}
use Rattle.diagram_terms.specs.Dimension.{dimension_of}
use Rattle.diagram_terms.specs.Decoded.{dia, arr}
use Rattle.diagram_terms.specs.Places.{Test, arrow_tests, first_failure, first_bad_place}

-- the tests of an arrow f from s to t
unfoldable pub tests_between : Tree → Tree → Tree → List Test
tests_between s t f = arrow_tests (dimension_of f) (dia (dimension_of f) s) (dia (dimension_of f) t) (arr (dimension_of f) f)

-- of an arrow f from s to t: an arrow of another dimension than an end fails at its ends
abbrev pub arrow_fault : Tree → Tree → Tree → Option Place
arrow_fault s t f =
    if nat_eq (dimension_of s) (dimension_of f) && nat_eq (dimension_of t) (dimension_of f)
    then first_failure (tests_between s t f)
    else Some (record { steps = []; end = at_end.Ends })

-- of a diagram
abbrev pub diagram_fault : Tree → Option Place
diagram_fault t = first_bad_place (dimension_of t) (dia (dimension_of t) t)
