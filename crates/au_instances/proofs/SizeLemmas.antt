-- How large types are: a part is smaller than the whole, so what looks at parts ends.
use Rattle.std.proofs.Common.{◌≡◌, ℕ, suc, ◌+◌, ◌<◌, ◌≤◌, List, [], ◌∷◌, length, get_or, Vec, ap, ◌∙◌, arith}
use Prim.Native.Nat.{zero}
use Rattle.std.specs.Global.{Global}
use Rattle.au_types.specs.declared.types.Arg.{Arg, Of}
use Rattle.au_types.specs.declared.types.DeclAt.{DeclAt}
use Rattle.au_types.specs.declared.types.Ty.{Ty, Named}
use Rattle.au_types.specs.Types.{Meaning, Argument, Arguments, unit, truth, integer, text, parameter, named}
use Rattle.au_types.specs.Types.{reads, writes, of_type, in_region, no_arguments, arguments}
use Rattle.au_types.specs.Views.{argument, argument_all, meaning}
use Rattle.au_types.proofs.TypeLemmas.{named_means, type_argument_means}

abbrev mutual
  -- a type
  pub type_size : Meaning → ℕ
  type_size unit = 1
  type_size truth = 1
  type_size (integer kind) = 1
  type_size text = 1
  type_size (parameter name) = 1
  type_size (named at args) = 1 + all_size args
  type_size (reads to region) = 1 + type_size to
  type_size (writes to region) = 1 + type_size to

  -- an argument
  pub argument_size : Argument → ℕ
  argument_size (of_type t) = 1 + type_size t
  argument_size (in_region region) = 1

  -- arguments
  pub all_size : Arguments → ℕ
  all_size no_arguments = 0
  all_size (arguments one rest) = argument_size one + all_size rest

item_within : (xs : List Arg) (i : ℕ) (d : Arg) → i < length xs → argument_size (argument (get_or xs i d))
    ≤ all_size (argument_all xs)
item_within [] i d inside = absurd (omega arith)
item_within (x ∷ xs) zero d inside = omega arith
item_within (x ∷ xs) (suc i) d inside = let rest = item_within xs i d (omega arith) in omega (arith, rest)

-- an argument is no larger than all together
pub item_size : (args items : List Arg) (i : ℕ) (item : Arg) → items ≡ args → i < length items →
    item ≡ get_or items i item → argument_size (argument item) ≤ all_size (argument_all args)
item_size args items i item same inside is =
    let here = item_within items i item inside in
    let one = ap (λ x. argument_size (argument x)) is in
    let all = ap (λ xs. all_size (argument_all xs)) same in
    omega (arith, here, one, all)

-- a declared type is larger than its arguments, and an argument larger than the type that it is
pub named_size : (of : Ty) (at : DeclAt) (args : Vec Arg Global) → of ≡ Named at args → type_size (meaning of)
    ≡ 1 + all_size (argument_all args.items)
named_size of at args is = ap type_size (ap meaning is ∙ named_means at args)

pub of_size : (one : Arg) (of : Ty) → one ≡ Of of → argument_size (argument one) ≡ 1 + type_size (meaning of)
of_size one of is = ap argument_size (ap argument is ∙ type_argument_means of)
