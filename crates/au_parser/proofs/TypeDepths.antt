-- What is told of the reader of types, of which the depth is limited.
use Rattle.std.proofs.Common.{◌≡◌, ℕ, zero, suc, Bool, true, List, [], ◌∷◌, ◌++◌, map, length, nat_le, Option}
use Rattle.std.proofs.Common.{Some, None, refl, ap, ◌∙◌, arith, cond}
use Rattle.std.proofs.lemmas.Bool.{le-leb}
use Rattle.std.specs.Prelude.{codes}
use Rattle.au_base.specs.declared.tokens.Sign.TheVariants.{LeftBracket, RightBracket, Comma, ReadBorrow}
use Rattle.au_base.specs.declared.tokens.Sign.TheVariants.{WriteBorrow}
use Rattle.au_base.specs.declared.tokens.Token.{Token}
use Rattle.au_base.specs.declared.tokens.What.{What}
use Rattle.au_base.specs.declared.tokens.What.TheVariants.{Sign, Name}
use Rattle.au_syntax.specs.declared.types.Access.{Access}
use Rattle.au_syntax.specs.declared.types.Access.TheVariants as access
use Rattle.au_syntax.specs.Names.{Placed}
use Rattle.au_syntax.specs.Plain.{Bytes}
use Rattle.au_syntax.specs.Types.{WrittenType, named, reference, no_types}
use Rattle.au_syntax.specs.Words.{Printed, access_sign, name_words}
use Rattle.au_read_expressions.specs.Bounds.{Bounds, depth_limit}
use Rattle.au_read_expressions.specs.Reading.{Read, name_at, name_of, behind_tokens, closed, pair, bracketed}
use Rattle.au_read_expressions.specs.TypeReading.{begins_type, types_of, named_of, reference_of, named_with}
use Rattle.au_read_expressions.specs.TypeReading.{reference_with, type_by, type_with, type_within}
use Rattle.au_parser.specs.Measures as measures
use Rattle.au_parser.specs.Measures.{Measured, Measures, plain, plains, lower, under_one, under}
use Rattle.au_parser.specs.Measures.{region_words, type_measures, measures_of_types, enclosed}
use Rattle.au_parser.specs.Passing.{Keep, KeepOver, PassBehind, Agree, Excess, of_depth}
use Rattle.au_parser.proofs.Told.{Passing, AreMeasured, Kind, Is, Example, Honest, token_of}
use Rattle.au_parser.proofs.Turns.{Turns, turned, turned_honest, map_turns}
use Rattle.au_parser.proofs.FirstTokens.{Starts, deep_honest, first_honest}
use Rattle.au_parser.proofs.Ways.{no_honest, pair_kind, pair_honest, behind_kind, behind_honest}
use Rattle.au_parser.proofs.Ways.{closed_kind, closed_honest, shaped_honest, built_honest, value_honest}
use Rattle.au_parser.proofs.Lists.{bracketed_kind, bracketed_honest}
use Rattle.au_parser.proofs.Single.{name_kind, name_honest, name_means, name_example, a_name}
use Rattle.au_parser.proofs.Levels.{lower_le, some_le}

-- ---- what words pass where so many levels of types are left

pub depth_none : (d : ℕ) (w : Printed) → ◌≡◌ {A = Option Excess}
    (cond (nat_le (plain w).depth d) None (Some of_depth)) None
depth_none d w = ap (λ v. cond v None (Some of_depth)) (le-leb 0 d (omega arith))

abbrev pub depths : Bounds → ℕ → Passing
depths b d = record {
  of = λ w. cond (nat_le w.depth d) None (Some of_depth);
  plain = depth_none d;
  placed = λ at w. refl;
  told = λ l what front back left. (l ≡ depth_limit b) × (left ≡ length back);
  more = λ l what us front back left h. h;
}

abbrev pub depth_test : Bool → Option Excess
depth_test v = cond v None (Some of_depth)

-- a type, each node by itself
abbrev pub part_kind : Kind WrittenType
part_kind = record { words = type_measures; good = λ t. true }

abbrev inner_kind : Kind WrittenType
inner_kind = turned under part_kind

pub part_example : Example part_kind
part_example = record {
  tree = named a_name no_types;
  tokens = token_of (Name (codes "a")) ∷ [];
  is = record { words = ((refl, (refl, tt)), tt); good = refl };
}

module _ (b : Bounds) (d : ℕ) where
  under_turns : Turns (depths b d) (depths b (suc d)) under
  under_turns = map_turns (depths b d) (depths b (suc d)) under_one (λ w. refl)
      (λ w. ap depth_test (lower_le w.depth d)) (λ w v h. (h.0, (ap lower h.1.0, h.1.1))) (λ l what front back left h. h)

  first_same : (w : Measured) → depth_test (nat_le (measures.some_level w.depth) (suc d))
      ≡ depth_test (nat_le w.depth (suc d))
  first_same w = ap depth_test (some_le w.depth d)

  first_are : (ws : Measures) (ts : List Token) → AreMeasured ws ts → AreMeasured (measures.begins_type ws) ts
  first_are [] ts h = h
  first_are (w ∷ ws) [] h = h
  first_are (w ∷ ws) (t ∷ ts) h = h

  first_keep : (ws : Measures) → Keep (depths b (suc d)).of ws → Keep (depths b (suc d)).of (measures.begins_type ws)
  first_keep [] h = h
  first_keep (w ∷ ws) h = (first_same w ∙ h.0, h.1)

  first_over : (us : List Token) (ws : Measures) → KeepOver (depths b (suc d)).of us ws →
      KeepOver (depths b (suc d)).of us (measures.begins_type ws)
  first_over [] ws h = tt
  first_over (u ∷ us) [] h = h
  first_over (u ∷ us) (w ∷ ws) h = (first_same w ∙ h.0, h.1)

  first_pass : (what : Excess) (us : List Token) (ws : Measures) → PassBehind (depths b (suc d)).of what us ws →
      PassBehind (depths b (suc d)).of what us (measures.begins_type ws)
  first_pass what us [] h = h
  first_pass what [] (w ∷ ws) h = first_same w ∙ h
  first_pass what (u ∷ us) (w ∷ ws) h = (first_same w ∙ h.0, h.1)

  first_agree : (us : List Token) (a c : Measures) → Agree us a c →
      Agree us (measures.begins_type a) (measures.begins_type c)
  first_agree [] a c h = tt
  first_agree (u ∷ us) [] c h = absurd h
  first_agree (u ∷ us) (w ∷ a) [] h = absurd h
  first_agree (u ∷ us) (w ∷ a) (v ∷ c) h =
      ((h.0.0, (ap measures.some_level h.0.1.0, (refl, h.0.1.1.1))), h.1)

  first_turns : Turns (depths b (suc d)) (depths b (suc d)) measures.begins_type
  first_turns = record {
    moves = record {
      are = first_are;
      keep = first_keep;
      over = first_over;
      pass = first_pass;
      told = λ l what front back left h. h;
    };
    agree = first_agree;
  }

-- ---- rows

list_words : (ts : List WrittenType) → measures_of_types (types_of ts) ≡ map inner_kind.words ts
list_words [] = refl
list_words (t ∷ ts) = ap (λ ws. under (type_measures t) ∷ ws) (list_words ts)

abbrev region_kind : Kind (Placed Bytes)
region_kind = record { words = region_words; good = λ x. true }

region_is : (x : Placed Bytes) (us : List Token) → Is name_kind x us → Is region_kind x us
region_is x us h = record { words = h.words; good = refl }

module _ (b : Bounds) (d : ℕ) (inner : List Token → Read WrittenType) (honest : Honest (depths b d) part_kind inner) where
  abbrev p : Passing
  p = depths b (suc d)

  nested : Honest p inner_kind inner
  nested = turned_honest (depths b d) p under (under_turns b d) part_kind inner honest

  region_honest : Honest p region_kind name_at
  region_honest = value_honest p region_kind
      (record {
        tree = name_example.tree;
        tokens = name_example.tokens;
        is = region_is name_example.tree name_example.tokens name_example.is;
      })
      (λ token. name_of token.what token.at) (λ t x e. region_is x (t ∷ []) (name_means t.what t x refl e))
      (λ x g. (depth_none (suc d) (record { what = Name x.name; places = x.at ∷ [] }), tt))

  abbrev args_kind : Kind (List WrittenType)
  args_kind = bracketed_kind inner_kind LeftBracket RightBracket

  named_honest : Honest p part_kind (named_with inner)
  named_honest =
      shaped_honest p (turned measures.begins_type (pair_kind name_kind args_kind)) part_kind
      (pair name_at (bracketed LeftBracket RightBracket inner))
      (turned_honest p p measures.begins_type (first_turns b d) (pair_kind name_kind args_kind)
      (pair name_at (bracketed LeftBracket RightBracket inner))
      (pair_honest p name_kind args_kind name_at (name_honest p) (bracketed LeftBracket RightBracket inner)
      (bracketed_honest p inner_kind inner nested LeftBracket RightBracket))) named_of
      (record {
        words = λ x g. ap (λ list. measures.begins_type (plains (name_words x.0) ++ enclosed LeftBracket RightBracket list))
            (list_words x.1);
        good = λ x g. refl;
      })

  abbrev closed_region : Kind (Placed Bytes)
  closed_region = closed_kind region_kind (Sign RightBracket ∷ [])

  abbrev region_at : List Token → Read (Placed Bytes)
  region_at = closed (Sign RightBracket ∷ []) name_at

  abbrev target_kind : Kind (WrittenType × Placed Bytes)
  target_kind = pair_kind inner_kind (behind_kind closed_region (Sign Comma ∷ []))

  abbrev target_at : List Token → Read (WrittenType × Placed Bytes)
  target_at = pair inner (behind_tokens (Sign Comma ∷ []) region_at)

  target_honest : Honest p target_kind target_at
  target_honest =
      pair_honest p inner_kind (behind_kind closed_region (Sign Comma ∷ [])) inner nested
      (behind_tokens (Sign Comma ∷ []) region_at)
      (behind_honest p closed_region (Sign Comma ∷ []) region_at
      (closed_honest p region_kind (Sign RightBracket ∷ []) name_at region_honest))

  reference_honest : (mode : Access) → Honest p part_kind (reference_with inner mode)
  reference_honest mode =
      built_honest p (turned measures.begins_type (behind_kind target_kind
      (Sign (access_sign mode) ∷ Sign LeftBracket ∷ []))) part_kind
      (behind_tokens (Sign (access_sign mode) ∷ Sign LeftBracket ∷ []) target_at)
      (turned_honest p p measures.begins_type (first_turns b d)
      (behind_kind target_kind (Sign (access_sign mode) ∷ Sign LeftBracket ∷ []))
      (behind_tokens (Sign (access_sign mode) ∷ Sign LeftBracket ∷ []) target_at)
      (behind_honest p target_kind (Sign (access_sign mode) ∷ Sign LeftBracket ∷ []) target_at target_honest))
      (reference_of mode)
      (record { words = λ at x. refl; good = λ at x g. refl })

  type_each : (w : Option What) → Honest p part_kind (type_by inner w)
  type_each (Some (Name bytes)) = named_honest
  type_each (Some (Sign ReadBorrow)) = reference_honest access.Read
  type_each (Some (Sign WriteBorrow)) = reference_honest access.Write
  type_each other = no_honest p part_kind part_example

  with_honest : Honest p part_kind (type_with inner)
  unfolding type_with
  with_honest = first_honest p part_kind (type_by inner) type_each

-- ---- where no level is left

module _ (b : Bounds) where
  abbrev behind_sign : List Token
  behind_sign = token_of (Sign LeftBracket) ∷ token_of (Name (codes "a")) ∷ token_of (Sign Comma)
      ∷ token_of (Name (codes "a")) ∷ token_of (Sign RightBracket) ∷ []

  type_starts : (w : What) (t : Token) → t.what ≡ w → begins_type (Some w) ≡ true →
      Starts (depths b 0) part_kind of_depth t
  type_starts (Name bytes) t is e = record {
    rest = [];
    tree = named (record { name = bytes; at = t.at }) no_types;
    is = record { words = ((is, (refl, tt)), tt); good = refl };
    passes = refl;
  }
  type_starts (Sign ReadBorrow) t is e = record {
    rest = behind_sign;
    tree = reference t.at access.Read (named a_name no_types) a_name;
    is = record {
      words = (
        (is, (refl, tt)),
        (
          (refl, tt),
          (
            (refl, (refl, tt)),
            (
              (refl, tt),
              (
                (refl, (refl, tt)),
                ((refl, tt), tt),
              ),
            ),
          ),
        ),
      );
      good = refl;
    };
    passes = refl;
  }
  type_starts (Sign WriteBorrow) t is e = record {
    rest = behind_sign;
    tree = reference t.at access.Write (named a_name no_types) a_name;
    is = record {
      words = (
        (is, (refl, tt)),
        (
          (refl, tt),
          (
            (refl, (refl, tt)),
            (
              (refl, tt),
              (
                (refl, (refl, tt)),
                ((refl, tt), tt),
              ),
            ),
          ),
        ),
      );
      good = refl;
    };
    passes = refl;
  }
  type_starts other t is e = absurd cc

  pub within_honest : (d : ℕ) → Honest (depths b d) part_kind (type_within b d)
  unfolding type_within
  within_honest zero =
      deep_honest (depths b 0) part_kind part_example begins_type (depth_limit b) of_depth refl (λ ts. (refl, refl))
      (λ t e. type_starts t.what t refl e)
  within_honest (suc d) = with_honest b d (type_within b d) (within_honest d)
