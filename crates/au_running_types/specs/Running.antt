-- Types while a program runs. Where a function is run, each of its type parameters stands for a type and each
-- region for a token: the number of one opening of a region, which is that of a borrow statement, or of a
-- whole expression, whose region is `~`. So each running of a borrow statement has a region of its own.
use Rattle.std.specs.Prelude.{◌≡◌, ℕ, Bool, true, false, ◌&&◌, List, [], ◌∷◌, map}
use Rattle.std.specs.Option.{option_map}
use Rattle.au_types.specs.declared.types.Region.{Region}
use Rattle.au_types.specs.declared.types.Region.TheVariants.{Static, Named, Anonymous}
use Rattle.au_types.specs.Types.{Meaning, Argument, Arguments, unit, truth, integer, text, parameter, named}
use Rattle.au_types.specs.Types.{reads, writes, of_type, in_region, no_arguments, arguments}
use Rattle.au_matching.specs.Bindings.{Bindings, value_of}
use Rattle.au_matching.specs.Substituted.{type_for, region_for}

-- ---- running types

-- The region of a token. As a name it has one byte, which is the token: types that are written and types
-- while a program runs never meet.
abbrev pub token : ℕ → Region
token z = Named (z ∷ [])

-- under bindings, and in a whole expression of this token
module _ (s : Bindings) (z : ℕ) where
  -- a region
  abbrev pub region_running : Region → Region
  region_running Static = Static
  region_running (Named name) = region_for (value_of name s) name
  region_running Anonymous = token z

  abbrev mutual
    -- a type
    pub running : Meaning → Meaning
    running unit = unit
    running truth = truth
    running (integer kind) = integer kind
    running text = text
    running (parameter name) = type_for (value_of name s) name
    running (named of args) = named of (all_running args)
    running (reads to region) = reads (running to) (region_running region)
    running (writes to region) = writes (running to) (region_running region)

    -- an argument
    pub argument_running : Argument → Argument
    argument_running (of_type t) = of_type (running t)
    argument_running (in_region region) = in_region (region_running region)

    -- arguments in order
    pub all_running : Arguments → Arguments
    all_running no_arguments = no_arguments
    all_running (arguments one rest) = arguments (argument_running one) (all_running rest)

-- ---- what is called

-- Second bindings give each name what the first ones give it, as that is where these are.
abbrev pub Runs : Bindings → ℕ → Bindings → Bindings → Type 0
Runs s z first second =
    (name : List ℕ) → value_of name second ≡ option_map (argument_running s z) (value_of name first)

-- what the names of a callee stand for, by the substitution that is noted at its call
abbrev pub called : Bindings → ℕ → Bindings → Bindings
called s z noted = map (λ (p : List ℕ × Argument). (p.0, argument_running s z p.1)) noted

-- ---- types without `~`

abbrev pub is_lasting_region : Region → Bool
is_lasting_region Static = true
is_lasting_region (Named name) = true
is_lasting_region Anonymous = false

abbrev mutual
  -- a type that outlasts each whole expression: `~` stands nowhere in it
  pub is_lasting : Meaning → Bool
  is_lasting unit = true
  is_lasting truth = true
  is_lasting (integer kind) = true
  is_lasting text = true
  is_lasting (parameter name) = true
  is_lasting (named of args) = are_lasting args
  is_lasting (reads to region) = is_lasting to && is_lasting_region region
  is_lasting (writes to region) = is_lasting to && is_lasting_region region

  -- an argument
  pub argument_lasting : Argument → Bool
  argument_lasting (of_type t) = is_lasting t
  argument_lasting (in_region region) = is_lasting_region region

  -- arguments
  pub are_lasting : Arguments → Bool
  are_lasting no_arguments = true
  are_lasting (arguments one rest) = argument_lasting one && are_lasting rest
