-- Types as trees of numbers, no two of them as one: by this a struct can be seen as a list of types.
use Rattle.std.specs.Prelude.{◌≡◌}
use Rattle.std.proofs.Common.{ap, refl}
use base.Stored.{Gv, gnil, gnum, gcons}
use Rattle.std.specs.Coded.{Coded, coded_list, coded_ℕ}
use Rattle.au_base.specs.contracts.kinds.IntKind.{the_row as kinds}
use Rattle.au_types.specs.contracts.types.DeclAt.{the_row as declarations}
use Rattle.au_types.specs.contracts.types.Region.{the_row as regions}
use Rattle.au_types.specs.Types.{Meaning, Argument, Arguments, unit, truth, integer, text, parameter, named}
use Rattle.au_types.specs.Types.{reads, writes, of_type, in_region, no_arguments, arguments}

abbrev first : Gv → Gv
first gnil = gnil
first (gnum n) = gnil
first (gcons a b) = a

abbrev second : Gv → Gv
second gnil = gnil
second (gnum n) = gnil
second (gcons a b) = b

mutual
  -- the tree of a type
  pub type_code : Meaning → Gv
  type_code unit = gnum 0
  type_code truth = gnum 1
  type_code text = gnum 2
  type_code (integer kind) = gcons (gnum 3) (kinds.coded.code kind)
  type_code (parameter name) = gcons (gnum 4) ((coded_list coded_ℕ).code name)
  type_code (named of args) = gcons (gnum 5) (gcons (declarations.coded.code of) (arguments_code args))
  type_code (reads to region) = gcons (gnum 6) (gcons (type_code to) (regions.coded.code region))
  type_code (writes to region) = gcons (gnum 7) (gcons (type_code to) (regions.coded.code region))

  -- the tree of an argument
  pub argument_code : Argument → Gv
  argument_code (of_type t) = gcons (gnum 0) (type_code t)
  argument_code (in_region region) = gcons (gnum 1) (regions.coded.code region)

  -- the tree of arguments
  arguments_code : Arguments → Gv
  arguments_code no_arguments = gnum 0
  arguments_code (arguments one rest) = gcons (argument_code one) (arguments_code rest)

mutual
  unfolding type_code argument_code arguments_code

  -- types with one tree are one type
  type_known : (a b : Meaning) → type_code a ≡ type_code b → a ≡ b
  type_known unit unit e = refl
  type_known truth truth e = refl
  type_known text text e = refl
  type_known (integer a) (integer b) e = ap integer (kinds.coded.inj a b (ap second e))
  type_known (parameter a) (parameter b) e = ap parameter ((coded_list coded_ℕ).inj a b (ap second e))
  type_known (named a args) (named b others) e =
      λ i. named (declarations.coded.inj a b (ap (λ g. first (second g)) e) i)
      (arguments_known args others (ap (λ g. second (second g)) e) i)
  type_known (reads a r) (reads b s) e =
      λ i. reads (type_known a b (ap (λ g. first (second g)) e) i)
      (regions.coded.inj r s (ap (λ g. second (second g)) e) i)
  type_known (writes a r) (writes b s) e =
      λ i. writes (type_known a b (ap (λ g. first (second g)) e) i)
      (regions.coded.inj r s (ap (λ g. second (second g)) e) i)
  type_known a b e = absurd cc

  -- arguments with one tree are one argument
  pub argument_known : (a b : Argument) → argument_code a ≡ argument_code b → a ≡ b
  argument_known (of_type a) (of_type b) e = ap of_type (type_known a b (ap second e))
  argument_known (in_region a) (in_region b) e = ap in_region (regions.coded.inj a b (ap second e))
  argument_known a b e = absurd cc

  arguments_known : (a b : Arguments) → arguments_code a ≡ arguments_code b → a ≡ b
  arguments_known no_arguments no_arguments e = refl
  arguments_known (arguments a args) (arguments b others) e =
      λ i. arguments (argument_known a b (ap first e) i) (arguments_known args others (ap second e) i)
  arguments_known a b e = absurd cc

-- the code of arguments
abbrev pub argument_coded : Coded Argument
argument_coded = record { code = argument_code; inj = argument_known }
