-- Modules are refused for nothing exactly where their names are good and their promises are kept.
use Rattle.std.proofs.Common.{◌≡◌, List, Option, Some, None, refl, ap, ◌∙◌}
use Rattle.std.specs.Option.{option_map, option_or}
use Rattle.au_modules.specs.Programs.{ModuleParts}
use Rattle.au_imports.specs.NameFaults.{name_fault}
use Rattle.au_imports.proofs.GoodNameLemmas as naming
use Rattle.au_promises.specs.Promises.{promise_fault}
use Rattle.au_promises.proofs.FulfilledLemmas as keeping
use Rattle.au_imports.specs.Good.{IsGood}
use Rattle.au_imports.specs.Importing.{of_names, of_promises, refusal_of}

-- ---- neither of two

first_none : {A B C : Type 0} (f : A → C) (g : B → C) (a : Option A) (b : Option B)
    → option_or (option_map f a) (option_map g b) ≡ None → a ≡ None
first_none f g None b h = refl
first_none f g (Some x) b h = cc

second_none : {A B C : Type 0} (f : A → C) (g : B → C) (a : Option A) (b : Option B)
    → option_or (option_map f a) (option_map g b) ≡ None → b ≡ None
second_none f g None None h = refl
second_none f g None (Some y) h = cc
second_none f g (Some x) b h = cc

both_none : {A B C : Type 0} (f : A → C) (g : B → C) (a : Option A) (b : Option B)
    → a ≡ None → b ≡ None → option_or (option_map f a) (option_map g b) ≡ None
both_none f g a b h k = ap (λ one. option_or (option_map f one) (option_map g b)) h ∙ ap (option_map g) k

-- ---- all

pub good_from : (program : List ModuleParts) → refusal_of program ≡ None → IsGood program
good_from program h = record {
  names = naming.good_from program (first_none of_names of_promises (name_fault program)
      (promise_fault program) h);
  promises = keeping.fulfilled_from program (second_none of_names of_promises
      (name_fault program) (promise_fault program) h);
}

pub good_accepted : (program : List ModuleParts) → IsGood program → refusal_of program ≡ None
good_accepted program good =
    both_none of_names of_promises (name_fault program) (promise_fault program)
    (naming.good_accepted program good.names) (keeping.fulfilled_accepted program good.promises)
