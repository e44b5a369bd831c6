-- The reading of lines as commands, by computation.
use Rattle.std.proofs.Common.{◌≡◌, [], ◌∷◌, codes, Some, None, Ok, Err, refl}
use Rattle.std.specs.Str.{is_utf8, chars}
use Rattle.serde_json.proofs.OnLiterals.{serde_json_on_literals}
use Rattle.diagram_terms.specs.declared.node.Node.TheVariants as node
use Rattle.diagram_terms.specs.declared.place.Height.TheVariants as height
use Rattle.diagram_terms.specs.declared.place.Side.TheVariants as side
use Rattle.node_json.specs.declared.fault.Field.TheVariants as field
use Rattle.node_json.specs.declared.fault.FormFault.TheVariants as fault
use Rattle.node_json.specs.NodeForms.{node_at}
use Rattle.node_json.specs.Reading.{field_fault}
use Rattle.workspace_json.specs.declared.command.Command.TheVariants as command
use Rattle.workspace_json.specs.Paths.{number_in, height_in}
use Rattle.workspace_json.specs.Commands.{bring_row, generator_row, identity_row, boundary_row, slice_row, compose_row, normalise_row, equal_row, drop_row, row_of, command_of, exact_command}

-- ---- each row

point : exact_command (codes "{\"do\":\"generator\",\"name\":\"x\"}") ≡ Ok (command.Generator (codes "x") None None)
unfolding is_utf8 chars serde_json_on_literals number_in height_in generator_row identity_row boundary_row slice_row equal_row drop_row row_of command_of
point = refl

cell : exact_command (codes "{\"do\":\"generator\",\"name\":\"f\",\"source\":\"x\",\"target\":\"y\"}") ≡ Ok (command.Generator (codes "f") (Some (codes "x")) (Some (codes "y")))
unfolding is_utf8 chars serde_json_on_literals number_in height_in generator_row identity_row boundary_row slice_row equal_row drop_row row_of command_of
cell = refl

identity : exact_command (codes "{\"do\":\"identity\",\"name\":\"i\",\"of\":\"x\"}") ≡ Ok (command.Identity (codes "i") (codes "x"))
unfolding is_utf8 chars serde_json_on_literals number_in height_in generator_row identity_row boundary_row slice_row equal_row drop_row row_of command_of
identity = refl

boundary_source : exact_command (codes "{\"do\":\"boundary\",\"name\":\"b\",\"of\":\"f\",\"side\":\"source\"}") ≡ Ok (command.Boundary (codes "b") (codes "f") side.Source)
unfolding is_utf8 chars serde_json_on_literals number_in height_in generator_row identity_row boundary_row slice_row equal_row drop_row row_of command_of
boundary_source = refl

boundary_target : exact_command (codes "{\"do\":\"boundary\",\"name\":\"b\",\"of\":\"f\",\"side\":\"target\"}") ≡ Ok (command.Boundary (codes "b") (codes "f") side.Target)
unfolding is_utf8 chars serde_json_on_literals number_in height_in generator_row identity_row boundary_row slice_row equal_row drop_row row_of command_of
boundary_target = refl

slice : exact_command (codes "{\"do\":\"slice\",\"of\":\"f\",\"path\":[\"s0\",\"r12\"]}") ≡ Ok (command.Slice (codes "f") (height.S 0 ∷ height.R 12 ∷ []))
unfolding is_utf8 chars serde_json_on_literals number_in height_in generator_row identity_row boundary_row slice_row equal_row drop_row row_of command_of
slice = refl

slice_itself : exact_command (codes "{\"do\":\"slice\",\"of\":\"f\",\"path\":[]}") ≡ Ok (command.Slice (codes "f") [])
unfolding is_utf8 chars serde_json_on_literals number_in height_in generator_row identity_row boundary_row slice_row equal_row drop_row row_of command_of
slice_itself = refl

equal : exact_command (codes "{\"do\":\"equal\",\"one\":\"x\",\"two\":\"y\"}") ≡ Ok (command.Equal (codes "x") (codes "y"))
unfolding is_utf8 chars serde_json_on_literals number_in height_in generator_row identity_row boundary_row slice_row equal_row drop_row row_of command_of
equal = refl

dropped : exact_command (codes "{\"do\":\"drop\",\"name\":\"x\"}") ≡ Ok (command.Drop (codes "x"))
unfolding is_utf8 chars serde_json_on_literals number_in height_in generator_row identity_row boundary_row slice_row equal_row drop_row row_of command_of
dropped = refl

stats : exact_command (codes "{\"do\":\"stats\"}") ≡ Ok command.Stats
unfolding is_utf8 chars serde_json_on_literals number_in height_in generator_row identity_row boundary_row slice_row equal_row drop_row row_of command_of
stats = refl

save : exact_command (codes "{\"do\":\"save\"}") ≡ Ok command.Save
unfolding is_utf8 chars serde_json_on_literals number_in height_in generator_row identity_row boundary_row slice_row equal_row drop_row row_of command_of
save = refl

undo : exact_command (codes "{\"do\":\"undo\"}") ≡ Ok command.Undo
unfolding is_utf8 chars serde_json_on_literals number_in height_in generator_row identity_row boundary_row slice_row equal_row drop_row row_of command_of
undo = refl

redo : exact_command (codes "{\"do\":\"redo\"}") ≡ Ok command.Redo
unfolding is_utf8 chars serde_json_on_literals number_in height_in generator_row identity_row boundary_row slice_row equal_row drop_row row_of command_of
redo = refl

-- spaces, another order of keys, and a name that is empty
as_json : exact_command (codes " {\"name\" : \"\", \"do\" : \"drop\"}") ≡ Ok (command.Drop [])
unfolding is_utf8 chars serde_json_on_literals number_in height_in generator_row identity_row boundary_row slice_row equal_row drop_row row_of command_of
as_json = refl

brought : exact_command (codes "{\"do\":\"bring\",\"name\":\"m\",\"nodes\":[{\"label\":[0,0]},{\"label\":[1,1]},{\"labels\":[[0,0],[1,1]]}],\"source\":0,\"target\":1,\"arrow\":2}")
    ≡ Ok (command.Bring (codes "m") (node.Label (record { number = 0; dim = 0 }) ∷ node.Label (record { number = 1; dim = 1 })
    ∷ node.Labels (record { number = 0; dim = 0 }) (record { number = 1; dim = 1 }) ∷ []) 0 1 2)
unfolding is_utf8 chars serde_json_on_literals number_in height_in node_at bring_row compose_row row_of command_of
brought = refl

composed : exact_command (codes "{\"do\":\"compose\",\"name\":\"gf\",\"then\":\"g\",\"first\":\"f\"}") ≡ Ok (command.Compose (codes "gf") (codes "f") (codes "g"))
unfolding is_utf8 chars serde_json_on_literals number_in height_in node_at bring_row compose_row row_of command_of
composed = refl

normalised : exact_command (codes "{\"do\":\"normalise\",\"legs\":[\"I\",\"J\"],\"name\":\"N\",\"of\":\"I:target\"}")
    ≡ Ok (command.Normalise (codes "N") (codes "I:target") (codes "I" ∷ codes "J" ∷ []))
unfolding is_utf8 chars serde_json_on_literals number_in height_in normalise_row row_of command_of
normalised = refl

-- ---- each fault

no_json : exact_command (codes "{\"do\":\"stats\"") ≡ Err fault.NotJson
unfolding is_utf8 chars serde_json_on_literals number_in height_in generator_row identity_row boundary_row slice_row equal_row drop_row row_of command_of
no_json = refl

no_object : exact_command (codes "[\"do\",\"stats\"]") ≡ Err (field_fault field.Command)
unfolding is_utf8 chars serde_json_on_literals number_in height_in generator_row identity_row boundary_row slice_row equal_row drop_row row_of command_of
no_object = refl

no_do : exact_command (codes "{\"name\":\"x\"}") ≡ Err (field_fault field.Do)
unfolding is_utf8 chars serde_json_on_literals number_in height_in generator_row identity_row boundary_row slice_row equal_row drop_row row_of command_of
no_do = refl

do_no_string : exact_command (codes "{\"do\":1}") ≡ Err (field_fault field.Do)
unfolding is_utf8 chars serde_json_on_literals number_in height_in generator_row identity_row boundary_row slice_row equal_row drop_row row_of command_of
do_no_string = refl

-- the word comes before the keys
no_word : exact_command (codes "{\"do\":\"Stats\",\"x\":1}") ≡ Err (field_fault field.Do)
unfolding is_utf8 chars serde_json_on_literals number_in height_in generator_row identity_row boundary_row slice_row equal_row drop_row row_of command_of
no_word = refl

missing_key : exact_command (codes "{\"do\":\"identity\",\"name\":\"x\"}") ≡ Err (field_fault field.Command)
unfolding is_utf8 chars serde_json_on_literals number_in height_in generator_row identity_row boundary_row slice_row equal_row drop_row row_of command_of
missing_key = refl

one_key_more : exact_command (codes "{\"do\":\"save\",\"name\":\"x\"}") ≡ Err (field_fault field.Command)
unfolding is_utf8 chars serde_json_on_literals number_in height_in generator_row identity_row boundary_row slice_row equal_row drop_row row_of command_of
one_key_more = refl

-- the keys come before the fields
one_end : exact_command (codes "{\"do\":\"generator\",\"name\":1,\"source\":\"x\"}") ≡ Err (field_fault field.Command)
unfolding is_utf8 chars serde_json_on_literals number_in height_in generator_row identity_row boundary_row slice_row equal_row drop_row row_of command_of
one_end = refl

-- the fields come in the order of the row, and not in that of the line
name_no_string : exact_command (codes "{\"do\":\"generator\",\"target\":1,\"source\":2,\"name\":3}") ≡ Err (field_fault field.Name)
unfolding is_utf8 chars serde_json_on_literals number_in height_in generator_row identity_row boundary_row slice_row equal_row drop_row row_of command_of
name_no_string = refl

source_no_string : exact_command (codes "{\"do\":\"generator\",\"target\":1,\"source\":2,\"name\":\"f\"}") ≡ Err (field_fault field.Source)
unfolding is_utf8 chars serde_json_on_literals number_in height_in generator_row identity_row boundary_row slice_row equal_row drop_row row_of command_of
source_no_string = refl

target_no_string : exact_command (codes "{\"do\":\"generator\",\"target\":1,\"source\":\"x\",\"name\":\"f\"}") ≡ Err (field_fault field.Target)
unfolding is_utf8 chars serde_json_on_literals number_in height_in generator_row identity_row boundary_row slice_row equal_row drop_row row_of command_of
target_no_string = refl

of_no_string : exact_command (codes "{\"do\":\"slice\",\"of\":null,\"path\":\"s0\"}") ≡ Err (field_fault field.Of)
unfolding is_utf8 chars serde_json_on_literals number_in height_in generator_row identity_row boundary_row slice_row equal_row drop_row row_of command_of
of_no_string = refl

other_side : exact_command (codes "{\"do\":\"boundary\",\"name\":\"b\",\"of\":\"f\",\"side\":\"Source\"}") ≡ Err (field_fault field.Side)
unfolding is_utf8 chars serde_json_on_literals number_in height_in generator_row identity_row boundary_row slice_row equal_row drop_row row_of command_of
other_side = refl

path_no_list : exact_command (codes "{\"do\":\"slice\",\"of\":\"f\",\"path\":\"s0\"}") ≡ Err (field_fault field.Path)
unfolding is_utf8 chars serde_json_on_literals number_in height_in generator_row identity_row boundary_row slice_row equal_row drop_row row_of command_of
path_no_list = refl

path_of_numbers : exact_command (codes "{\"do\":\"slice\",\"of\":\"f\",\"path\":[\"s0\",1]}") ≡ Err (field_fault field.Path)
unfolding is_utf8 chars serde_json_on_literals number_in height_in generator_row identity_row boundary_row slice_row equal_row drop_row row_of command_of
path_of_numbers = refl

path_of_words : exact_command (codes "{\"do\":\"slice\",\"of\":\"f\",\"path\":[\"s0\",\".\"]}") ≡ Err (field_fault field.Path)
unfolding is_utf8 chars serde_json_on_literals number_in height_in generator_row identity_row boundary_row slice_row equal_row drop_row row_of command_of
path_of_words = refl

one_no_string : exact_command (codes "{\"do\":\"equal\",\"one\":1,\"two\":2}") ≡ Err (field_fault field.One)
unfolding is_utf8 chars serde_json_on_literals number_in height_in generator_row identity_row boundary_row slice_row equal_row drop_row row_of command_of
one_no_string = refl

two_no_string : exact_command (codes "{\"do\":\"equal\",\"one\":\"x\",\"two\":2}") ≡ Err (field_fault field.Two)
unfolding is_utf8 chars serde_json_on_literals number_in height_in generator_row identity_row boundary_row slice_row equal_row drop_row row_of command_of
two_no_string = refl

-- the nodes come before the places
node_no_form : exact_command (codes "{\"do\":\"bring\",\"name\":\"m\",\"nodes\":[{\"label\":[0]}],\"source\":9,\"target\":9,\"arrow\":9}") ≡ Err (fault.Shape 0)
unfolding is_utf8 chars serde_json_on_literals number_in height_in node_at bring_row compose_row row_of command_of
node_no_form = refl

arrow_no_arrow : exact_command (codes "{\"do\":\"bring\",\"name\":\"m\",\"nodes\":[{\"label\":[0,0]}],\"source\":0,\"target\":0,\"arrow\":0}") ≡ Err (field_fault field.Arrow)
unfolding is_utf8 chars serde_json_on_literals number_in height_in node_at bring_row compose_row row_of command_of
arrow_no_arrow = refl

then_no_string : exact_command (codes "{\"do\":\"compose\",\"name\":\"c\",\"first\":\"f\",\"then\":0}") ≡ Err (field_fault field.Then)
unfolding is_utf8 chars serde_json_on_literals number_in height_in node_at bring_row compose_row row_of command_of
then_no_string = refl

legs_of_numbers : exact_command (codes "{\"do\":\"normalise\",\"legs\":[1],\"name\":\"N\",\"of\":\"f\"}") ≡ Err (field_fault field.Legs)
unfolding is_utf8 chars serde_json_on_literals number_in height_in normalise_row row_of command_of
legs_of_numbers = refl

of_before_legs : exact_command (codes "{\"do\":\"normalise\",\"legs\":\"f\",\"name\":\"N\",\"of\":0}") ≡ Err (field_fault field.Of)
unfolding is_utf8 chars serde_json_on_literals number_in height_in normalise_row row_of command_of
of_before_legs = refl
