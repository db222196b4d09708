-- Closed types of each form, and their texts, depths and nodes by hand.
use Rattle.std.specs.Prelude.{ℕ, suc, List, [], ◌∷◌, Option, None, Some, codes}
use Prim.Native.Nat.{zero}
use Rattle.au_base.specs.declared.kinds.IntKind.TheVariants as kinds
use Rattle.au_base.specs.declared.limits.Limit.{Limit}
use Rattle.au_base.specs.declared.limits.LimitKind.TheVariants.{TypeDepth, TypeNodes}
use Rattle.au_types.specs.declared.types.Region.TheVariants as regions
use Rattle.au_types.specs.Types as whole
use Rattle.au_types.specs.Types.{Meaning}
use Rattle.au_type_texts.specs.Examples as others
use Rattle.au_type_texts.specs.Examples.{exit_code, holder}
use Rattle.au_type_texts.specs.Types.{ClosedType, unit, truth, integer, text, named, reads, writes}
use Rattle.au_type_texts.specs.Types.{no_types, types}

-- a type, and the closed type that it is, if it is one
pub record Closing : Type 0 where
  pub of : Meaning
  pub to : Option ClosedType

abbrev pub closings : List Closing
closings =
    record { of = whole.unit; to = Some unit }
    ∷ record { of = whole.truth; to = Some truth }
    ∷ record { of = whole.integer kinds.Nat16; to = Some (integer kinds.Nat16) }
    ∷ record { of = whole.text; to = Some text }
    ∷ record { of = whole.parameter (codes "T"); to = None }
    ∷ record { of = whole.named exit_code whole.no_arguments; to = Some (named exit_code no_types) }
    -- regions are left out, each and everywhere
    ∷ record {
      of = others.held whole.unit (whole.in_region regions.Static);
      to = Some (named holder (types unit no_types));
    }
    ∷ record {
      of = whole.named holder
          (whole.arguments (whole.in_region (regions.Named (codes "R")))
          (whole.arguments (whole.in_region regions.Static) whole.no_arguments));
      to = Some (named holder no_types);
    }
    ∷ record {
      of = others.held
          (whole.reads (others.held whole.truth (whole.in_region (regions.Named (codes "S"))))
          regions.Anonymous)
          (whole.of_type whole.text);
      to = Some (named holder (types (reads (named holder (types truth no_types))) (types text no_types)));
    }
    ∷ record {
      of = whole.writes (whole.reads whole.text (regions.Named (codes "R"))) regions.Static;
      to = Some (writes (reads text));
    }
    -- a type parameter, wherever it stands
    ∷ record { of = whole.writes (whole.parameter (codes "T")) regions.Anonymous; to = None }
    ∷ record {
      of = others.held whole.unit (whole.of_type (whole.reads (whole.parameter (codes "T")) regions.Static));
      to = None;
    }
    ∷ record { of = others.held (whole.parameter (codes "T")) (whole.of_type whole.unit); to = None }
    ∷ []

-- a closed type, its text, its depth and its nodes
pub record Example : Type 0 where
  pub of : ClosedType
  pub says : List ℕ
  pub depth : ℕ
  pub nodes : ℕ

-- a holder of these types
abbrev pub held : ClosedType → ClosedType → ClosedType
held t u = named holder (types t (types u no_types))

abbrev pub examples : List Example
examples =
    record { of = unit; says = codes "Unit"; depth = 1; nodes = 1 }
    ∷ record { of = truth; says = codes "Bool"; depth = 1; nodes = 1 }
    ∷ record { of = integer kinds.Int16; says = codes "Int16"; depth = 1; nodes = 1 }
    ∷ record { of = text; says = codes "Span[Nat8, Static]"; depth = 2; nodes = 3 }
    ∷ record {
      of = named exit_code no_types;
      says = codes "Austral.Pervasive:ExitCode";
      depth = 1;
      nodes = 1;
    }
    ∷ record {
      of = named holder (types (integer kinds.Nat8) no_types);
      says = codes "Main:Holder[Nat8]";
      depth = 2;
      nodes = 2;
    }
    ∷ record { of = reads text; says = codes "&[Span[Nat8, Static]]"; depth = 3; nodes = 4 }
    ∷ record {
      of = writes (held (reads unit) text);
      says = codes "&![Main:Holder[&[Unit], Span[Nat8, Static]]]";
      depth = 4;
      nodes = 7;
    }
    ∷ record {
      of = held (held truth unit) (named exit_code no_types);
      says = codes "Main:Holder[Main:Holder[Bool, Unit], Austral.Pervasive:ExitCode]";
      depth = 3;
      nodes = 5;
    }
    ∷ []

-- a closed type behind so many references
abbrev pub behind : ℕ → ClosedType → ClosedType
behind zero t = t
behind (suc n) t = reads (behind n t)

-- a holder of two holders of two, and so on, so many times: it has twice as many nodes and one each time
abbrev pub doubled : ℕ → ClosedType
doubled zero = unit
doubled (suc n) = held (doubled n) (doubled n)

-- closed types at a limit and past it, and what is told of their depth and of their nodes
pub record Case : Type 0 where
  pub of : ClosedType
  pub deep : Option Limit
  pub large : Option Limit

abbrev pub cases : List Case
cases =
    -- 24 deep
    record { of = behind 23 unit; deep = None; large = None }
    -- 25 deep
    ∷ record {
      of = behind 24 unit;
      deep = Some (record { kind = TypeDepth; count = 25; most = 24 });
      large = None;
    }
    -- 40 deep: the first count that passes the limit is told
    ∷ record {
      of = behind 39 unit;
      deep = Some (record { kind = TypeDepth; count = 25; most = 24 });
      large = None;
    }
    -- 4,096 nodes
    ∷ record { of = behind 1 (doubled 11); deep = None; large = None }
    -- 4,097 nodes
    ∷ record {
      of = behind 2 (doubled 11);
      deep = None;
      large = Some (record { kind = TypeNodes; count = 4097; most = 4096 });
    }
    -- 8,191 nodes: all are told
    ∷ record {
      of = doubled 12;
      deep = None;
      large = Some (record { kind = TypeNodes; count = 8191; most = 4096 });
    }
    ∷ []
