-- Code can follow closed functions of which this is asked.
use Rattle.std.proofs.Common.{◌≡◌, ℕ, suc, true, List, [], ◌∷◌, Option, Some, None, refl, subst}
use Rattle.std.specs.Option.{option_map}
use Rattle.au_syntax.specs.Expressions.{Expression, Expressions, Arguments, number, negative, text, truth}
use Rattle.au_syntax.specs.Expressions.{nil, path, arrow, call, named_call, parenthesized, dereference}
use Rattle.au_syntax.specs.Expressions.{borrow, borrow_part, binary, negation, typed, choice, no_expressions}
use Rattle.au_syntax.specs.Expressions.{expressions, no_arguments, arguments}
use Rattle.au_syntax.specs.Plain.{Bytes}
use Rattle.au_syntax.specs.Statements.{Statement, Statements, Branches, Arms, skip, declare, destructure}
use Rattle.au_syntax.specs.Statements.{assign, assign_through, conditional, conditional_else, case_of}
use Rattle.au_syntax.specs.Statements.{while_loop, for_loop, borrow_in, borrow_typed, discard, return_of}
use Rattle.au_syntax.specs.Statements.{no_statements, statements, no_branches, branches, no_arms, arms}
use Rattle.au_modules.specs.Programs.{ModuleParts}
use Rattle.au_type_texts.specs.Types.{ClosedType}
use Rattle.au_closed_trees.specs.ClosedNotes.{Callee, ClosedNote, instance, constructor, shipped}
use Rattle.au_closed_trees.specs.declared.notes.Literal.{Literal}
use Rattle.au_closing.specs.Closes.{ClosedFunction}
use Rattle.au_closed_meanings.specs.Shipped.{shipped_parameters}
use Rattle.au_closed_meanings.specs.Surroundings.{Surroundings, field_names, literal_value, view_in, with_parameters}
use Rattle.au_closed_meanings.specs.Closed.{surroundings_of}
use Rattle.au_meaning.specs.Views.{Act, Field, invokes, makes}
use Rattle.au_shipped.specs.declared.prims.ShippedCall.{ShippedCall}
use Rattle.au_shipped.specs.declared.prims.ShippedCall.TheVariants as prim
use Rattle.au_running.specs.Asked.{AreSimple, FieldsAreOnce, InRange, IsAny, ParametersAreOnce}
use Rattle.au_running.specs.Followed.{functions_in, functions_of}
use Rattle.au_running.specs.Suits.{CanCall, CanMention, EachSuits, SaidOf, SaidOfAll, SaidOfNamed, SaidIn}
use Rattle.au_running.specs.Suits.{SaidOfBlock, SaidOfTests, SaidOfArms, SuitsBlock, are_once}
use Rattle.au_running.specs.Suits.{has_literal, is_followed, passes}

-- ---- what is said more

module _ {T C : Type 0} (mentioned other : T → Bytes → Type 0) (called claimed : T → C → Bytes → Type 0)
    (mention : (n : T) (name : Bytes) → mentioned n name → other n name)
    (claim : (n : T) (c : C) (name : Bytes) → called n c name → claimed n c name) where
  mutual
    more : (e : Expression Bytes T C) → SaidOf mentioned called e → SaidOf other claimed e
    more (number n l) ok = tt
    more (negative n l) ok = tt
    more (text n t) ok = tt
    more (truth n b) ok = tt
    more (nil n) ok = tt
    more (path n x fields) ok = mention n.note x.name ok
    more (arrow n r fields) ok = tt
    more (call n f args c) ok = (claim n.note c f.name ok.0, more_all args ok.1)
    more (named_call n f args c) ok = (claim n.note c f.name ok.0, more_named args ok.1)
    more (parenthesized n e) ok = more e ok
    more (dereference n e) ok = more e ok
    more (borrow n mode x) ok = tt
    more (borrow_part n r fields) ok = tt
    more (binary n op a b) ok = (more a ok.0, more b ok.1)
    more (negation n e) ok = more e ok
    more (typed n e t) ok = more e ok
    more (choice n c a b) ok = (more c ok.0, more a ok.1, more b ok.2)

    more_all : (es : Expressions Bytes T C) → SaidOfAll mentioned called es → SaidOfAll other claimed es
    more_all no_expressions ok = tt
    more_all (expressions e rest) ok = (more e ok.0, more_all rest ok.1)

    more_named : (es : Arguments Bytes T C) → SaidOfNamed mentioned called es → SaidOfNamed other claimed es
    more_named no_arguments ok = tt
    more_named (arguments label e rest) ok = (more e ok.0, more_named rest ok.1)

  mutual
    more_in : (s : Statement Bytes T C) → SaidIn mentioned called s → SaidIn other claimed s
    more_in (skip at) ok = tt
    more_in (declare at b n t e) ok = more e ok
    more_in (destructure at binds e) ok = more e ok
    more_in (assign at n fields e) ok = more e ok
    more_in (assign_through at n fields e) ok = more e ok
    more_in (conditional at tests) ok = more_tests tests ok
    more_in (conditional_else at tests b) ok = (more_tests tests ok.0, more_block b ok.1)
    more_in (case_of at e all) ok = (more e ok.0, more_arms all ok.1)
    more_in (while_loop at e b) ok = (more e ok.0, more_block b ok.1)
    more_in (for_loop at n a z b) ok = (more a ok.0, more z ok.1, more_block b ok.2)
    more_in (borrow_in at access x r region b stop) ok = more_block b ok
    more_in (borrow_typed at r t mode x b stop) ok = more_block b ok
    more_in (discard at e) ok = more e ok
    more_in (return_of at e) ok = more e ok

    more_block : (b : Statements Bytes T C) → SaidOfBlock mentioned called b → SaidOfBlock other claimed b
    more_block no_statements ok = tt
    more_block (statements s rest) ok = (more_in s ok.0, more_block rest ok.1)

    more_tests : (tests : Branches Bytes T C) → SaidOfTests mentioned called tests
        → SaidOfTests other claimed tests
    more_tests no_branches ok = tt
    more_tests (branches e b rest) ok = (more e ok.0, more_block b ok.1, more_tests rest ok.2)

    more_arms : (all : Arms Bytes T C) → SaidOfArms mentioned called all → SaidOfArms other claimed all
    more_arms no_arms ok = tt
    more_arms (arms at n binds b rest) ok = (more_block b ok.0, more_arms rest ok.1)

-- ---- calls and constants

-- the parameters of shipped calls have names of their own
shipped_once : (which : ShippedCall) → are_once (shipped_parameters which) ≡ true
shipped_once prim.PrintText = refl
shipped_once prim.PrintInt = refl
shipped_once prim.PrintBool = refl
shipped_once prim.PrintLnText = refl
shipped_once prim.PrintLnInt = refl
shipped_once prim.PrintLnBool = refl
shipped_once (prim.Wrap op kind) = refl
shipped_once (prim.Convert kind) = refl
shipped_once prim.SurrenderRoot = refl
shipped_once prim.Abort = refl
shipped_once prim.SpanLength = refl
shipped_once prim.Swap = refl
shipped_once prim.MakeBox = refl
shipped_once prim.Unbox = refl
shipped_once prim.BoxGet = refl
shipped_once prim.BoxGetMut = refl
shipped_once prim.MakeEmpty = refl
shipped_once prim.DestroyEmpty = refl
shipped_once prim.Length = refl
shipped_once prim.InsertBack = refl
shipped_once prim.RemoveBack = refl
shipped_once prim.Nth = refl
shipped_once prim.ReplaceNth = refl
shipped_once prim.AcquireTerminal = refl
shipped_once prim.ReadByte = refl
shipped_once prim.WriteByte = refl
shipped_once prim.ReleaseTerminal = refl

-- where names are known they are each there once
known_follows : (names : Option (List Bytes)) (act : Act ℕ)
    → ((all : List Bytes) → names ≡ Some all → are_once all ≡ true)
    → passes is_followed (with_parameters names act) ≡ true
known_follows None act once = refl
known_follows (Some all) act once = once all refl

literal_follows : (o : Option Literal)
    → ((literal : Literal) → o ≡ Some literal → has_literal (literal_value literal) ≡ true)
    → passes has_literal (option_map literal_value o) ≡ true
literal_follows None ok = refl
literal_follows (Some literal) ok = ok literal refl

-- where what is known round a tree has each name once
module _ (round : Surroundings)
    (once : (number : ℕ) (names : List Bytes) → round.parameters number ≡ Some names → are_once names ≡ true)
    (fields_once : (of : ClosedType) (tag : ℕ) (fields : List Field) → round.fields of tag ≡ Some fields
    → are_once (field_names fields) ≡ true) where
  mention_follows : (n : ClosedNote) (name : Bytes) → InRange n name → CanMention (view_in round) n name
  mention_follows n name ok = literal_follows n.literal ok

  case_once : (o : Option (List Field)) → ((fields : List Field) → o ≡ Some fields
      → are_once (field_names fields) ≡ true)
      → (all : List Bytes) → option_map field_names o ≡ Some all → are_once all ≡ true
  case_once None ok all e = absurd cc
  case_once (Some fields) ok all e =
      let is : field_names fields ≡ all = cc in subst (λ l. are_once l ≡ true) is (ok fields refl)

  call_follows : (n : ClosedNote) (c : Callee ℕ) (name : Bytes) → IsAny n c name
      → CanCall (view_in round) n c name
  call_follows n (instance which) name ok =
      known_follows (round.parameters which) (invokes which) (once which)
  call_follows n (constructor of tag) name ok =
      known_follows (option_map field_names (round.fields of tag)) (makes of tag round.home)
      (case_once (round.fields of tag) (fields_once of tag))
  call_follows n (shipped which) name ok = shipped_once which

  -- code can follow a block of which this is asked
  pub block_follows : (b : Statements Bytes ClosedNote (Callee ℕ)) → SaidOfBlock InRange IsAny b
      → SuitsBlock (view_in round) b
  block_follows b ok =
      more_block InRange (CanMention (view_in round)) IsAny (CanCall (view_in round)) mention_follows
      call_follows b ok

-- ---- functions

all_follow : (program : List ModuleParts) (functions : List ClosedFunction) → ParametersAreOnce functions
    → FieldsAreOnce program → (some : List ClosedFunction) → AreSimple some → (numbers : ℕ → ℕ)
    → EachSuits (functions_in (surroundings_of program functions) numbers some)
all_follow program functions once fields_once [] simple numbers = tt
all_follow program functions once fields_once (f ∷ rest) simple numbers = (
  block_follows (surroundings_of program functions f.home) once fields_once f.body (simple 0 f refl),
  all_follow program functions once fields_once rest (λ i. simple (suc i)) (λ n. numbers (suc n)),
)

-- code can follow closed functions of which this is asked
pub asked_follow : (program : List ModuleParts) (functions : List ClosedFunction)
    → ParametersAreOnce functions
    → FieldsAreOnce program → AreSimple functions → (numbers : ℕ → ℕ)
    → EachSuits (functions_of program numbers functions)
asked_follow program functions once fields_once simple numbers =
    all_follow program functions once fields_once functions simple numbers
