-- A good literal of which a type is wanted has a plain value of it.
use Rattle.std.proofs.Common.{◌≡◌, ℕ, ℤ, neg_ℤ, false, true, true≢false, List, Option, None, Some, refl}
use Rattle.std.proofs.Common.{sym, subst}
use Rattle.std.specs.Prelude.{int_le, is_some}
use Rattle.std.proofs.lemmas.Bool.{and_parts}
use Rattle.au_base.specs.declared.kinds.IntKind.{IntKind}
use Rattle.au_ints.specs.Ranges.{greatest_of, is_of_kind, least_of}
use Rattle.au_syntax.specs.Expressions.{number, negative, text, truth, nil, path, arrow, call, named_call}
use Rattle.au_syntax.specs.Expressions.{parenthesized, dereference, borrow, borrow_part, binary, negation}
use Rattle.au_syntax.specs.Expressions.{typed, choice}
use Rattle.au_types.specs.Types as mean
use Rattle.au_types.specs.Types.{Meaning}
use Rattle.au_types.proofs.SameLemmas.{same_is}
use Rattle.au_matching.specs.Bindings.{Bindings}
use Rattle.au_modules.specs.Programs.{ModuleParts}
use Rattle.au_running_types.specs.Running.{running}
use Rattle.au_memory.specs.Shown.{IsPlain}
use Rattle.au_judged_bodies.specs.Good.{Kept}
use Rattle.au_judged_bodies.specs.Insides.{fields_of}
use Rattle.au_judged_bodies.specs.Lookups.{target_behind}
use Rattle.au_judged_bodies.specs.Notes.{Note, NotedExpression}
use Rattle.au_judged_bodies.specs.Typing.Parts.{is_literal}
use Rattle.au_judged_bodies.specs.Rules.{literal_kind, meets}
use Rattle.au_judged_bodies.specs.Scopes.{Scope}
use Rattle.au_judged_bodies.specs.Statements.{Wants}
use Rattle.au_judged_bodies.specs.Literal.{Literal}
use Rattle.au_judged_bodies.specs.Literal.TheVariants as literals
use Rattle.au_judged_bodies.specs.Bodies.{integer_of, literal_of}
use Rattle.au_judged_bodies.specs.Surroundings.{literal_value}

-- ---- types of literals

-- a type of literals
abbrev pub IsSimple : Meaning → Type 0
IsSimple mean.unit = Unit {0}
IsSimple mean.truth = Unit {0}
IsSimple (mean.integer kind) = Unit {0}
IsSimple mean.text = Unit {0}
IsSimple t = ⊥

-- it runs as itself
pub simple_runs : (s : Bindings) (z : ℕ) (t : Meaning) → IsSimple t → running s z t ≡ t
simple_runs s z mean.unit is = refl
simple_runs s z mean.truth is = refl
simple_runs s z (mean.integer kind) is = refl
simple_runs s z mean.text is = refl
simple_runs s z (mean.parameter name) is = absurd is
simple_runs s z (mean.named at args) is = absurd is
simple_runs s z (mean.reads to region) is = absurd is
simple_runs s z (mean.writes to region) is = absurd is

-- it is no record and no reference
pub simple_whole : (program : List ModuleParts) (place : ℕ) (t : Meaning) → IsSimple t
    → (is_some (fields_of program place t) ≡ false) × (target_behind t ≡ None)
simple_whole program place mean.unit is = (refl, refl)
simple_whole program place mean.truth is = (refl, refl)
simple_whole program place (mean.integer kind) is = (refl, refl)
simple_whole program place mean.text is = (refl, refl)
simple_whole program place (mean.parameter name) is = absurd is
simple_whole program place (mean.named at args) is = absurd is
simple_whole program place (mean.reads to region) is = absurd is
simple_whole program place (mean.writes to region) is = absurd is

-- ---- literals

-- a literal is there, of which the value is a plain one of the type
pub record Fits (o : Option Literal) (t : Meaning) : Type 0 where
  pub literal : Literal
  pub there : o ≡ Some literal
  pub simple : IsSimple t
  pub plain : IsPlain (literal_value literal) t

integer_fits : (t : Meaning) (kind : IntKind) (z : ℤ) → t ≡ mean.integer kind → is_of_kind kind z ≡ true
    → Fits (integer_of t z) t
integer_fits t kind z is ok =
    subst (λ (x : Meaning). Fits (integer_of x z) x) (sym is) (record {
      literal = literals.Int kind z;
      there = refl;
      simple = tt;
      plain = (refl, (and_parts (int_le (least_of kind) z) (int_le z (greatest_of kind)) ok).0);
    })

-- the type that is wanted is that of the note
wanted_is : (n : Note) (of : Meaning) → Kept n → n.mode ≡ Some of → n.of ≡ of
wanted_is n of kept is = sym (same_is of n.of (subst (λ m. meets m n.of ≡ true) is kept.wanted))

pub literal_fits : (sc : Scope) (of : Meaning) (e : NotedExpression) → Wants sc e (Some of)
    → is_literal e ≡ true → Fits (literal_of e) of
literal_fits sc of (number n l) good is =
    subst (Fits (literal_of (number n l))) (wanted_is n.note of good.0.0 good.1)
    (integer_fits n.note.of (literal_kind n.note.mode) l.value good.0.1.0 good.0.1.1)
literal_fits sc of (negative n l) good is =
    subst (Fits (literal_of (negative n l))) (wanted_is n.note of good.0.0 good.1)
    (integer_fits n.note.of (literal_kind n.note.mode) (neg_ℤ l.value) good.0.1.0 good.0.1.1)
literal_fits sc of (text n t) good is =
    subst (Fits (literal_of (text n t))) (wanted_is n.note of good.0.0 good.1)
    (subst (Fits (literal_of (text n t))) (sym good.0.1)
    (record { literal = literals.Text t; there = refl; simple = tt; plain = tt }))
literal_fits sc of (truth n b) good is =
    subst (Fits (literal_of (truth n b))) (wanted_is n.note of good.0.0 good.1)
    (subst (Fits (literal_of (truth n b))) (sym good.0.1)
    (record { literal = literals.Bool b; there = refl; simple = tt; plain = tt }))
literal_fits sc of (nil n) good is =
    subst (Fits (literal_of (nil n))) (wanted_is n.note of good.0.0 good.1)
    (subst (Fits (literal_of (nil n))) (sym good.0.1)
    (record { literal = literals.Unit; there = refl; simple = tt; plain = tt }))
literal_fits sc of (path n x fields) good is = absurd (true≢false (sym is))
literal_fits sc of (arrow n x fields) good is = absurd (true≢false (sym is))
literal_fits sc of (call n f es c) good is = absurd (true≢false (sym is))
literal_fits sc of (named_call n f es c) good is = absurd (true≢false (sym is))
literal_fits sc of (parenthesized n a) good is = absurd (true≢false (sym is))
literal_fits sc of (dereference n a) good is = absurd (true≢false (sym is))
literal_fits sc of (borrow n m x) good is = absurd (true≢false (sym is))
literal_fits sc of (borrow_part n x fields) good is = absurd (true≢false (sym is))
literal_fits sc of (binary n op a b) good is = absurd (true≢false (sym is))
literal_fits sc of (negation n a) good is = absurd (true≢false (sym is))
literal_fits sc of (typed n a t) good is = absurd (true≢false (sym is))
literal_fits sc of (choice n c a b) good is = absurd (true≢false (sym is))
