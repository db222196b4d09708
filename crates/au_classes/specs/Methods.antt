-- Whether the methods of an instance are exactly those of its class, each with the signature that the class's
-- method has where the head of the instance stands for the class's parameter. Names of parameters count, the
-- order of methods doesn't. Types are the same that mean one type, or that both mean none.
use Rattle.std.specs.Prelude.{◌≡◌, ◌&&◌, ◌||◌, List, [], ◌∷◌, ◌++◌, Bool, false, not, Option, None, Some}
use Rattle.std.specs.Prelude.{Contains}
use Rattle.std.specs.List.{find, list_all, list_any}
use Rattle.std.specs.Str.{bytes_eq}
use Rattle.au_syntax.specs.Modules.{Header}
use Rattle.au_syntax.specs.Plain.{Bytes, PlainMethod}
use Rattle.au_syntax.specs.Types.{WrittenType, Labelled}
use Rattle.au_types.specs.Types.{Meaning}
use Rattle.au_promises.specs.Agreeing.{all_agree, same_meaning, same_name}
use Rattle.au_promises.specs.Fulfilled.{Each}

-- a method goes by this name
abbrev pub is_named : Bytes → PlainMethod → Bool
is_named name m = bytes_eq name m.header.name.name

-- so does a method of a class
abbrev pub is_called : Bytes → Header Bytes → Bool
is_called name h = bytes_eq name h.name.name

-- ---- the rule

-- what a type that is written in the class means with the head of the instance in the place of the class's
-- parameter, and what one that is written in the instance means
module _ (wanted given : WrittenType → Option Meaning) where
  -- two parameters have one name and one type
  abbrev pub SameLabelled : Labelled Bytes → Labelled Bytes → Type 0
  SameLabelled a b = (a.name.name ≡ b.name.name) × (wanted a.of ≡ given b.of)

  -- two methods have the same parameters in order, and the same result
  abbrev pub SameSignature : Header Bytes → Header Bytes → Type 0
  SameSignature h k = Each SameLabelled h.parameters k.parameters × (wanted h.result ≡ given k.result)

  -- Methods are those of a class: each of the class is defined with its signature, none is added, and no two
  -- have one name.
  pub record AreMethods (class : List (Header Bytes)) (methods : List PlainMethod) : Type 0 where
    pub defined : (h : Header Bytes) → Contains class h
        → (m : PlainMethod) × Contains methods m × (h.name.name ≡ m.header.name.name)
        × SameSignature h m.header
    pub declared : (m : PlainMethod) → Contains methods m
        → (h : Header Bytes) × Contains class h × (m.header.name.name ≡ h.name.name)
    pub once : (before after : List PlainMethod) (m other : PlainMethod) → methods ≡ before ++ m ∷ after
        → Contains before other → ¬ (m.header.name.name ≡ other.header.name.name)

-- ---- the same as a test

-- a method of this name stands among those before another or is one of these, each after those before it
abbrev pub doubled_from : List PlainMethod → List PlainMethod → Bool
doubled_from before [] = false
doubled_from before (m ∷ rest) =
    list_any (is_named m.header.name.name) before || doubled_from (before ++ m ∷ []) rest

-- two methods have one name
abbrev pub is_doubled : List PlainMethod → Bool
is_doubled methods = doubled_from [] methods

-- a method is one of a class
abbrev pub is_declared : List (Header Bytes) → PlainMethod → Bool
is_declared class m = list_any (is_called m.header.name.name) class

module _ (wanted given : WrittenType → Option Meaning) where
  -- two types
  abbrev pub same_type : WrittenType → WrittenType → Bool
  same_type t u = same_meaning (wanted t) (given u)

  -- two parameters
  abbrev pub same_labelled : Labelled Bytes → Labelled Bytes → Bool
  same_labelled a b = same_name a.name b.name && same_type a.of b.of

  -- two methods
  abbrev pub same_signature : Header Bytes → Header Bytes → Bool
  same_signature h k = all_agree same_labelled h.parameters k.parameters && same_type h.result k.result

  -- a method that is found, if one is, has the signature of one of the class
  abbrev pub has_signature : Header Bytes → Option PlainMethod → Bool
  has_signature h None = false
  has_signature h (Some m) = same_signature h m.header

  -- a method of the class is defined among these
  abbrev pub is_defined : List PlainMethod → Header Bytes → Bool
  is_defined methods h = has_signature h (find (is_named h.name.name) methods)

  -- methods are those of a class
  abbrev pub are_methods : List (Header Bytes) → List PlainMethod → Bool
  are_methods class methods =
      not (is_doubled methods)
      && (list_all (is_defined methods) class && list_all (is_declared class) methods)
