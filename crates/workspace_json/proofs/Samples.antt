-- The definitions at small documents, by computation.
use Rattle.std.proofs.Common.{◌≡◌, [], ◌∷◌, codes, true, false, Some, None, refl}
use Rattle.std.specs.Fmt.{digits}
use Rattle.serde_json.proofs.OnLiterals.{serde_json_on_literals}
use Rattle.diagram_terms.specs.declared.node.Node.TheVariants as node
use Rattle.diagram_terms.specs.declared.place.Height.TheVariants as height
use Rattle.diagram_terms.specs.declared.place.Step.TheVariants as step
use Rattle.diagram_terms.specs.declared.place.End.TheVariants as at_end
use Rattle.diagram_terms.specs.declared.place.Fault.TheVariants as place_fault
use Rattle.node_json.specs.declared.fault.Field.TheVariants as field
use Rattle.node_json.specs.declared.fault.FormFault.TheVariants as fault
use Rattle.workspace_json.specs.declared.reply.Reply.TheVariants.{Look, Generator, Stored, Named, Normalise, Slice, Equal, Stats, Save, Undo, Redo, Refused}
use Rattle.workspace_json.specs.declared.reply.Word.TheVariants.{Identity, Boundary, Drop}
use Rattle.workspace_json.specs.declared.refusal.Refusal.TheVariants as refusal
use Rattle.workspace_json.specs.declared.refusal.Refusal.TheVariants.{Unknown, NoHeight}
use Rattle.workspace_json.specs.Paths.{number_in, height_in, path_text, path_in}
use Rattle.workspace_json.specs.Places.{place_text}
use Rattle.workspace_json.specs.Replies.{text_of_reply, text_of_fault}

inner_end : place_text (record { steps = step.F 0 ∷ step.S 12 ∷ []; end = at_end.Ends }) ≡ codes "f0 s12 ends"
unfolding digits
inner_end = refl

in_a_source : place_text (record { steps = step.SourceEnd ∷ step.R 3 ∷ step.B 1 ∷ []; end = at_end.Square 2 }) ≡ codes "source r3 b1 q2"
unfolding digits
in_a_source = refl

at_once : place_text (record { steps = []; end = at_end.Square 10 }) ≡ codes "q10"
unfolding digits
at_once = refl

looks : text_of_reply (Look 1 2 (codes "F") None) ≡ codes "{\"dim\":1,\"length\":2,\"name\":\"F\",\"ok\":\"look\"}"
unfolding digits serde_json_on_literals
looks = refl

looks_bad : text_of_reply (Look 2 1 (codes "D") (Some (record { steps = step.F 0 ∷ step.S 0 ∷ []; end = at_end.Ends })))
    ≡ codes "{\"at\":\"f0 s0 ends\",\"dim\":2,\"length\":1,\"name\":\"D\",\"no\":\"look\"}"
unfolding digits serde_json_on_literals
looks_bad = refl

slices : text_of_reply (Slice (node.Label (record { number = 3; dim = 0 }) ∷ node.Diagram (0 ∷ []) [] [] [] ∷ []) 1)
    ≡ codes "{\"nodes\":[{\"label\":[3,0]},{\"bwds\":[],\"fwds\":[],\"regs\":[0],\"sings\":[]}],\"ok\":\"slice\",\"root\":1}"
unfolding digits serde_json_on_literals
slices = refl

unknown_name : text_of_reply (Refused (Unknown (codes "F"))) ≡ codes "{\"name\":\"F\",\"refused\":\"Unknown\"}"
unfolding serde_json_on_literals
unknown_name = refl

no_height : text_of_reply (Refused (NoHeight 2)) ≡ codes "{\"refused\":\"NoHeight\",\"step\":2}"
unfolding digits serde_json_on_literals
no_height = refl

-- ---- replies to commands

new_generator : text_of_reply (Generator 1 (codes "f") 12) ≡ codes "{\"dim\":1,\"name\":\"f\",\"number\":12,\"ok\":\"generator\"}"
unfolding digits serde_json_on_literals
new_generator = refl

new_identity : text_of_reply (Stored 1 0 (codes "ix") Identity) ≡ codes "{\"dim\":1,\"length\":0,\"name\":\"ix\",\"ok\":\"identity\"}"
unfolding digits serde_json_on_literals
new_identity = refl

new_boundary : text_of_reply (Stored 0 0 (codes "b") Boundary) ≡ codes "{\"dim\":0,\"length\":0,\"name\":\"b\",\"ok\":\"boundary\"}"
unfolding digits serde_json_on_literals
new_boundary = refl

dropped : text_of_reply (Named (codes "s") Drop) ≡ codes "{\"name\":\"s\",\"ok\":\"drop\"}"
unfolding serde_json_on_literals
dropped = refl

normal_form_found : text_of_reply (Normalise 1 (1 ∷ 2 ∷ []) (codes "n") (node.Label (record { number = 3; dim = 0 }) ∷ []) 0)
    ≡ codes "{\"arrow\":1,\"factors\":[1,2],\"name\":\"n\",\"nodes\":[{\"label\":[3,0]}],\"ok\":\"normalise\",\"source\":0}"
unfolding digits serde_json_on_literals
normal_form_found = refl

are_equal : text_of_reply (Equal true) ≡ codes "{\"ok\":\"equal\",\"value\":true}"
unfolding serde_json_on_literals
are_equal = refl

are_not_equal : text_of_reply (Equal false) ≡ codes "{\"ok\":\"equal\",\"value\":false}"
unfolding serde_json_on_literals
are_not_equal = refl

numbers : text_of_reply (Stats 1 3 4 0 2) ≡ codes "{\"arrows\":1,\"diagrams\":3,\"generators\":4,\"maps\":0,\"named\":2,\"ok\":\"stats\"}"
unfolding digits serde_json_on_literals
numbers = refl

saved : text_of_reply (Save (record { generators = record { name = codes "x"; boundary = None } ∷ []; diagrams = []; maps = []; nodes = [] }))
    ≡ codes "{\"document\":{\"diagrams\":[],\"format\":1,\"generators\":[{\"name\":\"x\"}],\"maps\":[],\"nodes\":[]},\"ok\":\"save\"}"
unfolding digits serde_json_on_literals
saved = refl

taken_back : text_of_reply (Undo) ≡ codes "{\"ok\":\"undo\"}"
unfolding serde_json_on_literals
taken_back = refl

made_again : text_of_reply (Redo) ≡ codes "{\"ok\":\"redo\"}"
unfolding serde_json_on_literals
made_again = refl

-- ---- refusals

name_bad : text_of_reply (Refused refusal.NameBad) ≡ codes "{\"refused\":\"NameBad\"}"
unfolding serde_json_on_literals
name_bad = refl

name_taken : text_of_reply (Refused refusal.NameTaken) ≡ codes "{\"refused\":\"NameTaken\"}"
unfolding serde_json_on_literals
name_taken = refl

dim_differs : text_of_reply (Refused refusal.DimDiffers) ≡ codes "{\"refused\":\"DimDiffers\"}"
unfolding serde_json_on_literals
dim_differs = refl

not_parallel : text_of_reply (Refused refusal.NotParallel) ≡ codes "{\"refused\":\"NotParallel\"}"
unfolding serde_json_on_literals
not_parallel = refl

dim_limit : text_of_reply (Refused refusal.DimLimit) ≡ codes "{\"refused\":\"DimLimit\"}"
unfolding serde_json_on_literals
dim_limit = refl

count_limit : text_of_reply (Refused refusal.CountLimit) ≡ codes "{\"refused\":\"CountLimit\"}"
unfolding serde_json_on_literals
count_limit = refl

nothing_to_undo : text_of_reply (Refused refusal.NothingToUndo) ≡ codes "{\"refused\":\"NothingToUndo\"}"
unfolding serde_json_on_literals
nothing_to_undo = refl

nothing_to_redo : text_of_reply (Refused refusal.NothingToRedo) ≡ codes "{\"refused\":\"NothingToRedo\"}"
unfolding serde_json_on_literals
nothing_to_redo = refl

-- ---- the four kinds of faults

bad_square : text_of_reply (Refused (refusal.IllTyped (place_fault.SquareAt (record { steps = step.F 0 ∷ []; end = at_end.Square 1 }))))
    ≡ codes "{\"at\":\"f0 q1\",\"fault\":\"square\",\"refused\":\"IllTyped\"}"
unfolding digits serde_json_on_literals
bad_square = refl

loose_leg : text_of_reply (Refused (refusal.IllTyped (place_fault.LooseAt (step.S 2 ∷ step.B 10 ∷ []))))
    ≡ codes "{\"at\":\"s2 b10\",\"fault\":\"loose\",\"refused\":\"IllTyped\"}"
unfolding digits serde_json_on_literals
loose_leg = refl

no_label : text_of_reply (Refused (refusal.IllTyped (place_fault.LabelAt (height.R 0 ∷ height.S 1 ∷ height.R 12 ∷ []))))
    ≡ codes "{\"at\":\"r0 s1 r12\",\"fault\":\"label\",\"refused\":\"IllTyped\"}"
unfolding digits serde_json_on_literals
no_label = refl

no_type : text_of_reply (Refused (refusal.IllTyped (place_fault.TypeAt (height.S 0 ∷ height.S 0 ∷ []))))
    ≡ codes "{\"at\":\"s0 s0\",\"fault\":\"type\",\"refused\":\"IllTyped\"}"
unfolding digits serde_json_on_literals
no_type = refl

-- the one point of a diagram of dimension 0 has no heights
no_type_of_a_point : text_of_reply (Refused (refusal.IllTyped (place_fault.TypeAt [])))
    ≡ codes "{\"at\":\"\",\"fault\":\"type\",\"refused\":\"IllTyped\"}"
unfolding digits serde_json_on_literals
no_type_of_a_point = refl

-- ---- form faults

not_json : text_of_fault fault.NotJson ≡ codes "{\"refused\":\"NotJson\"}"
unfolding serde_json_on_literals
not_json = refl

wrong_field : text_of_fault (fault.Form field.Nodes None) ≡ codes "{\"field\":\"nodes\",\"refused\":\"Form\"}"
unfolding serde_json_on_literals
wrong_field = refl

wrong_entry : text_of_fault (fault.Form field.Maps (Some 3)) ≡ codes "{\"entry\":3,\"field\":\"maps\",\"refused\":\"Form\"}"
unfolding digits serde_json_on_literals
wrong_entry = refl

wrong_node : text_of_fault (fault.Early 7) ≡ codes "{\"node\":7,\"refused\":\"Early\"}"
unfolding digits serde_json_on_literals
wrong_node = refl

-- ---- paths

empty_path : path_in (codes ".") ≡ Some ([])
unfolding number_in height_in
empty_path = refl

one_step : path_in (codes "s0") ≡ Some (height.S 0 ∷ [])
unfolding number_in height_in
one_step = refl

two_steps : path_in (codes "s0,r1") ≡ Some (height.S 0 ∷ height.R 1 ∷ [])
unfolding number_in height_in
two_steps = refl

two_digits : path_in (codes "r12") ≡ Some (height.R 12 ∷ [])
unfolding number_in height_in
two_digits = refl

greatest_number : path_in (codes "r4294967295") ≡ Some (height.R 4294967295 ∷ [])
unfolding number_in height_in
greatest_number = refl

two_steps_text : path_text (height.S 0 ∷ height.R 12 ∷ []) ≡ codes "s0,r12"
unfolding digits
two_steps_text = refl

leading_zero : path_in (codes "s01") ≡ None
unfolding number_in height_in
leading_zero = refl

no_number : path_in (codes "s") ≡ None
unfolding number_in height_in
no_number = refl

no_word : path_in (codes "") ≡ None
unfolding number_in height_in
no_word = refl

trailing_comma : path_in (codes "s0,") ≡ None
unfolding number_in height_in
trailing_comma = refl

leading_comma : path_in (codes ",s0") ≡ None
unfolding number_in height_in
leading_comma = refl

two_commas : path_in (codes "s0,,r1") ≡ None
unfolding number_in height_in
two_commas = refl

empty_step : path_in (codes ".,s0") ≡ None
unfolding number_in height_in
empty_step = refl

other_letter : path_in (codes "t0") ≡ None
unfolding number_in height_in
other_letter = refl

minus : path_in (codes "s-1") ≡ None
unfolding number_in height_in
minus = refl

plus : path_in (codes "s+1") ≡ None
unfolding number_in height_in
plus = refl

too_great : path_in (codes "s4294967296") ≡ None
unfolding number_in height_in
too_great = refl

trailing_space : path_in (codes "s0 ") ≡ None
unfolding number_in height_in
trailing_space = refl

capital : path_in (codes "S0") ≡ None
unfolding number_in height_in
capital = refl
