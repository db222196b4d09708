-- The keys of what calls lead to: numbers from which it is told.
use Rattle.std.specs.Prelude.{ℕ, List, [], ◌∷◌}
use Rattle.au_base.specs.declared.kinds.IntKind.{IntKind}
use Rattle.au_base.specs.declared.kinds.IntKind.TheVariants as kinds
use Rattle.au_instances.specs.declared.constructors.Constructor.{Constructor}
use Rattle.au_instances.specs.declared.constructors.Constructor.TheVariants as constructors
use Rattle.au_caps.specs.Calls.{Callee, a_birth, a_function, a_method, an_instance, a_class}

-- an integer type
abbrev pub kind_number : IntKind → ℕ
kind_number kinds.Nat8 = 0
kind_number kinds.Nat16 = 1
kind_number kinds.Nat32 = 2
kind_number kinds.Nat64 = 3
kind_number kinds.Int8 = 4
kind_number kinds.Int16 = 5
kind_number kinds.Int32 = 6
kind_number kinds.Int64 = 7
kind_number kinds.Index = 8

-- a constructor
abbrev pub constructor_key : Constructor → List ℕ
constructor_key constructors.Unit = 0 ∷ []
constructor_key constructors.Bool = 1 ∷ []
constructor_key constructors.Text = 2 ∷ []
constructor_key (constructors.Int kind) = 3 ∷ kind_number kind ∷ []
constructor_key (constructors.Declared at) = 4 ∷ at.«module» ∷ at.decl ∷ []

-- what a call leads to
abbrev pub key_of : Callee → List ℕ
key_of (a_birth at) = 0 ∷ at.«module» ∷ at.decl ∷ []
key_of (a_function place name) = 1 ∷ place ∷ name
key_of (a_method class name) = 2 ∷ class.«module» ∷ class.decl ∷ name
key_of (an_instance class one) = 3 ∷ class.«module» ∷ class.decl ∷ constructor_key one
key_of (a_class class) = 4 ∷ class.«module» ∷ class.decl ∷ []
