-- Code that has the functions of a program.
use Rattle.std.specs.Prelude.{◌≡◌, ℕ, true, List, [], ◌∷◌, length, Option, Some, slice_get}
use Rattle.au_type_texts.specs.Types.{ClosedType}
use Rattle.au_typing.specs.Returns.{block_returns}
use Rattle.au_lowered.specs.Laws.{BlockTidy}
use Rattle.au_lowered.specs.Programs.{body_of, slots_of, texts_in, types_in, text_number, type_number}
use Rattle.au_lowered.specs.Programs.{lowered}
use Rattle.au_low.specs.declared.code.Function as low
use Rattle.au_low.specs.declared.code.LowType.{LowType}
use Rattle.au_meaning.specs.Views.{Field, Function}
use Rattle.au_lowered.specs.Premises.{GoodView, Placed}
use Rattle.au_lowered.specs.Trees.{BlockBindsOnce}
use Rattle.au_lowered.specs.Homes.{FunctionHomed}
use Rattle.au_lowered.specs.Sides.{Coding}

module _ {T C : Type 0} (by : Coding) where
  -- a function that the code has under a number
  pub record HasFunction (i : ℕ) (f : Function ℕ T C) : Type 0 where
    pub low_function : low.Function
    pub there : slice_get by.code.functions i ≡ Some low_function
    pub params : low_function.params ≡ length f.parameters
    pub slots : low_function.slots ≡ slots_of f
    pub placed : Placed by i (λ p. slice_get (body_of f) p)
    pub view : GoodView by f.view
    pub whole : BlockBindsOnce f.body
    pub homes : FunctionHomed by.slot f

  -- it has all of a program
  abbrev pub HasProgram : (ℕ → Option (Function ℕ T C)) → Type 0
  HasProgram functions = (i : ℕ) (f : Function ℕ T C) → functions i ≡ Some f → HasFunction i f

-- ---- programs that are lowered

-- the numbers that the code of a program has for texts and types, and the slots of declarations
abbrev pub coding : {T C : Type 0} → (ClosedType → LowType) → List (Function ℕ T C) → (ℕ → ℕ) → Coding
coding told functions slot = record {
  code = lowered told functions;
  text = text_number (texts_in functions);
  of = type_number (types_in functions);
  slot = slot;
}

-- an entry has no parameter, or one, which is the root
abbrev pub EntryTakes : List Field → Type 0
EntryTakes [] = Unit {0}
EntryTakes (p ∷ []) = Unit {0}
EntryTakes (p ∷ q ∷ more) = ⊥

module _ {T C : Type 0} (told : ClosedType → LowType) (functions : List (Function ℕ T C)) where
  -- A function whose code does what it means: each path of its body returns, nothing follows a return, it
  -- binds each field once, its declarations have the slots of their numbers, and code can follow its view.
  pub record GoodFunction (slot : ℕ → ℕ) (f : Function ℕ T C) : Type 0 where
    pub returns : block_returns f.body ≡ true
    pub tidy : BlockTidy f.body
    pub whole : BlockBindsOnce f.body
    pub homes : FunctionHomed slot f
    pub view : GoodView (coding told functions slot) f.view

  -- All functions are good, with one slot for each number of a declaration: what outlives its frame may name
  -- a place in it.
  pub record GoodProgram : Type 0 where
    pub slot : ℕ → ℕ
    pub each : (i : ℕ) (f : Function ℕ T C) → slice_get functions i ≡ Some f → GoodFunction slot f
    pub entry : (f : Function ℕ T C) → slice_get functions 0 ≡ Some f → EntryTakes f.parameters
