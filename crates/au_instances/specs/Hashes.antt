-- What a constructor writes into a hash. The nine kinds of integers write the same.
use Rattle.std.specs.Prelude.{ℕ, List, ◌++◌}
use Rattle.std.specs.Hash as fed
use Rattle.au_instances.specs.declared.constructors.Constructor.{Constructor}
use Rattle.au_instances.specs.declared.constructors.Constructor.TheVariants as constructors

abbrev pub constructor_input : Constructor → List (List ℕ)
constructor_input constructors.Unit = fed.u8 0
constructor_input constructors.Bool = fed.u8 1
constructor_input (constructors.Int kind) = fed.u8 2
constructor_input constructors.Text = fed.u8 3
constructor_input (constructors.Declared at) = fed.u8 4 ++ (fed.u16 at.«module» ++ fed.u32 at.decl)
