-- What a store keeps of the trees that it holds: the lists of their parts, each once, and the blocks of these.
use Rattle.std.specs.Prelude.{ℕ, ◌+◌, ◌==◌, List, [], ◌∷◌, ◌++◌, Bool, length, if◌then◌else◌}
use Rattle.std.specs.List.{flat_map}
use Rattle.std.specs.Cmp.Lexicographic.{pointwise}
use Rattle.diagram_terms.specs.Tree.{Tree, kind, regs, sings, fwds, bwds, heights}
use Rattle.diagram_terms.specs.Completion.{same_tree}
use Rattle.hashcons.specs.declared.storage.Storage.{Storage}
use Rattle.block_lists.specs.Blocks.{blocks_of, distinct, nonempty, same_numbers}
use Rattle.hashcons.specs.Contents.{Contents}

-- the lists of a diagram above dimension 0, and those of an arrow
abbrev pub slices_of_diagram : Tree → List (List Tree)
slices_of_diagram t = if kind t == 1 then regs t ∷ sings t ∷ [] else []

abbrev pub legs_of_diagram : Tree → List (List Tree)
legs_of_diagram t = if kind t == 1 then fwds t ∷ bwds t ∷ [] else []

abbrev pub slices_of_arrow : Tree → List (List Tree)
slices_of_arrow t = if kind t == 3 then regs t ∷ sings t ∷ [] else []

abbrev pub heights_of_arrow : Tree → List (List ℕ)
heights_of_arrow t = if kind t == 3 then heights t ∷ [] else []

-- the lists of all trees of a store: of diagrams, of arrows, and of heights
abbrev pub lists_of_diagrams : Contents → List (List Tree)
lists_of_diagrams c = flat_map slices_of_diagram c.diagrams

abbrev pub lists_of_arrows : Contents → List (List Tree)
lists_of_arrows c = flat_map legs_of_diagram c.diagrams ++ flat_map slices_of_arrow c.arrows

abbrev pub lists_of_heights : Contents → List (List ℕ)
lists_of_heights c = flat_map heights_of_arrow c.arrows

-- whether two lists of trees are equal
abbrev pub same_trees : List Tree → List Tree → Bool
same_trees ts us = pointwise same_tree ts us

-- how many distinct lists there are, the empty one left out, and how many distinct blocks
abbrev pub count_lists : {X : Type 0} → (List X → List X → Bool) → List (List X) → ℕ
count_lists same ls = length (distinct same (nonempty ls))

abbrev pub count_blocks : {X : Type 0} → (List X → List X → Bool) → List (List X) → ℕ
count_blocks same ls = length (distinct same (flat_map blocks_of ls))

abbrev pub storage_of : Contents → Storage
storage_of c = record {
  diagrams = length c.diagrams;
  arrows = length c.arrows;
  lists = count_lists same_trees (lists_of_diagrams c) + count_lists same_trees (lists_of_arrows c)
      + count_lists same_numbers (lists_of_heights c);
  blocks = count_blocks same_trees (lists_of_diagrams c) + count_blocks same_trees (lists_of_arrows c)
      + count_blocks same_numbers (lists_of_heights c);
}
