-- Types of each form, and their texts, depths and nodes by hand.
use Rattle.std.specs.Prelude.{ℕ, suc, List, [], ◌∷◌, Option, None, Some, codes}
use Prim.Native.Nat.{zero}
use Rattle.au_base.specs.declared.kinds.IntKind.TheVariants as kinds
use Rattle.au_base.specs.declared.limits.Limit.{Limit}
use Rattle.au_base.specs.declared.limits.LimitKind.TheVariants.{TypeDepth, TypeNodes}
use Rattle.au_syntax.specs.declared.declarations.Universe.TheVariants as universes
use Rattle.au_types.specs.declared.headings.Head.{Head}
use Rattle.au_types.specs.declared.parameters.Parameter.{Parameter}
use Rattle.au_types.specs.declared.types.DeclAt.{DeclAt}
use Rattle.au_types.specs.declared.types.Region.TheVariants as regions
use Rattle.au_types.specs.Types.{Meaning, Argument, unit, truth, integer, text, parameter, named, reads}
use Rattle.au_types.specs.Types.{writes, of_type, in_region, no_arguments, arguments}

-- two declared types: one that takes nothing, and one that takes a type and a region
abbrev pub exit_code : DeclAt
exit_code = record { «module» = 0; decl = 3 }

abbrev pub holder : DeclAt
holder = record { «module» = 4; decl = 0 }

abbrev pub exit_code_head : Head
exit_code_head = record { text = codes "Austral.Pervasive:ExitCode"; universe = universes.Free; params = [] }

abbrev pub region_parameter : Parameter
region_parameter = record { name = codes "R"; universe = universes.Region }

abbrev pub holder_head : Head
holder_head = record {
  text = codes "Main:Holder";
  universe = universes.Linear;
  params = record { name = codes "T"; universe = universes.AnyType } ∷ region_parameter ∷ [];
}

abbrev pub rows : List (DeclAt × Head)
rows = (exit_code, exit_code_head) ∷ (holder, holder_head) ∷ []

-- a holder of this type in this region
abbrev pub held : Meaning → Argument → Meaning
held t one = named holder (arguments (of_type t) (arguments one no_arguments))

-- a type, its text, its depth and its nodes
pub record Example : Type 0 where
  pub of : Meaning
  pub says : List ℕ
  pub depth : ℕ
  pub nodes : ℕ

abbrev pub examples : List Example
examples =
    record { of = unit; says = codes "Unit"; depth = 1; nodes = 1 }
    ∷ record { of = truth; says = codes "Bool"; depth = 1; nodes = 1 }
    ∷ record { of = integer kinds.Nat8; says = codes "Nat8"; depth = 1; nodes = 1 }
    ∷ record { of = integer kinds.Int64; says = codes "Int64"; depth = 1; nodes = 1 }
    ∷ record { of = integer kinds.Index; says = codes "Index"; depth = 1; nodes = 1 }
    ∷ record { of = text; says = codes "Span[Nat8, Static]"; depth = 2; nodes = 3 }
    ∷ record { of = parameter (codes "T"); says = codes "T"; depth = 1; nodes = 1 }
    ∷ record {
      of = named exit_code no_arguments;
      says = codes "Austral.Pervasive:ExitCode";
      depth = 1;
      nodes = 1;
    }
    ∷ record {
      of = held unit (in_region regions.Static);
      says = codes "Main:Holder[Unit, Static]";
      depth = 2;
      nodes = 3;
    }
    ∷ record {
      of = held (held truth (in_region (regions.Named (codes "S")))) (in_region (regions.Named (codes "R")));
      says = codes "Main:Holder[Main:Holder[Bool, S], R]";
      depth = 3;
      nodes = 5;
    }
    ∷ record {
      of = reads text (regions.Named (codes "R"));
      says = codes "&[Span[Nat8, Static], R]";
      depth = 3;
      nodes = 5;
    }
    ∷ record {
      of = writes (parameter (codes "T")) regions.Anonymous;
      says = codes "&![T, ~]";
      depth = 2;
      nodes = 3;
    }
    ∷ record {
      of = writes (held (reads unit regions.Static) (in_region regions.Anonymous))
          (regions.Named (codes "R"));
      says = codes "&![Main:Holder[&[Unit, Static], ~], R]";
      depth = 4;
      nodes = 7;
    }
    ∷ []

-- a type behind so many references
abbrev pub behind : ℕ → Meaning → Meaning
behind zero t = t
behind (suc n) t = reads (behind n t) regions.Static

-- a holder of two holders of two, and so on, so many times: it has twice as many nodes and one each time
abbrev pub doubled : ℕ → Meaning
doubled zero = unit
doubled (suc n) = held (doubled n) (of_type (doubled n))

-- types at a limit and past it, and what is told of their depth and of their nodes
pub record Case : Type 0 where
  pub of : Meaning
  pub deep : Option Limit
  pub large : Option Limit

abbrev pub cases : List Case
cases =
    -- 24 deep
    record { of = behind 23 unit; deep = None; large = None }
    -- 25 deep
    ∷ record {
      of = behind 24 unit;
      deep = Some (record { kind = TypeDepth; count = 25; most = 24 });
      large = None;
    }
    -- 40 deep: the first count that passes the limit is told
    ∷ record {
      of = behind 39 unit;
      deep = Some (record { kind = TypeDepth; count = 25; most = 24 });
      large = None;
    }
    -- 4,096 nodes
    ∷ record { of = named holder (arguments (of_type (doubled 11)) no_arguments); deep = None; large = None }
    -- 4,097 nodes
    ∷ record {
      of = behind 1 (doubled 11);
      deep = None;
      large = Some (record { kind = TypeNodes; count = 4097; most = 4096 });
    }
    -- 8,191 nodes: all are told
    ∷ record {
      of = doubled 12;
      deep = None;
      large = Some (record { kind = TypeNodes; count = 8191; most = 4096 });
    }
    ∷ []
