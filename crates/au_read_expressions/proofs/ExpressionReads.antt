-- The laws of expressions, atoms and calls: what is read is spelled so and within the limits, and what is
-- spelled so is read, or a limit that it passes is told.
use Rattle.std.proofs.Common.{◌≡◌, ℕ, suc, Bool, true, false, ◌&&◌, List, [], ◌∷◌, length, drop, Some, Ok}
use Rattle.std.proofs.Common.{Err, refl, ap, ◌∙◌, inl, inr}
use Prim.Native.Nat.{zero}
use Rattle.std.proofs.lemmas.Bool.{and_parts}
use Rattle.au_base.specs.declared.tokens.Sign.TheVariants.{LeftParenthesis}
use Rattle.au_base.specs.declared.tokens.Token.{Token}
use Rattle.au_base.specs.declared.tokens.What.TheVariants.{Sign, Name}
use Rattle.au_syntax.specs.Forms.{is_atom, is_call, formed_expression}
use Rattle.au_syntax.specs.Names.{Placed}
use Rattle.au_syntax.specs.Plain.{Bytes, PlainExpression}
use Rattle.au_syntax.specs.Words.{expression_words}
use Rattle.au_read_expressions.specs.declared.faults.Fault.TheVariants.{Passed}
use Rattle.au_read_expressions.specs.Bounds.{Bounds, nesting_limit}
use Rattle.au_read_expressions.specs.Reading.{◌>>=◌, front, begins_with, value_or_no, name_of, name_at}
use Rattle.au_read_expressions.specs.Spelling.{Begins}
use Rattle.au_read_expressions.proofs.Steps.{not_read, bind_ok, begins_again}
use Rattle.au_read_expressions.proofs.Forms.{Finds, Reads, anything}
use Rattle.au_read_expressions.specs.TypeReading.{type_at, ends_type}
use Rattle.au_read_expressions.specs.ExpressionReading.{begins_atom, begins_expression, ends_atom}
use Rattle.au_read_expressions.specs.ExpressionReading.{ends_expression, too_deep, expression_at, atom_at}
use Rattle.au_read_expressions.specs.ExpressionReading.{no_call, call_at}
use Rattle.au_read_expressions.proofs.TypeForm.{type_form}
use Rattle.au_read_expressions.proofs.ExpressionForm.{expression_form, atom_form, call_form}
use Rattle.au_read_expressions.proofs.ExpressionForm.{expression_begins, atom_begins, expression_level}
use Rattle.au_read_expressions.proofs.SecondTokens.{call_begins}
use Rattle.au_read_expressions.proofs.CallLaws.{call_with_reads}
use Rattle.au_read_expressions.proofs.AtomLaws.{atom_with_reads}
use Rattle.au_read_expressions.proofs.ExpressionLaws.{expression_with_reads}

module _ (b : Bounds) where
  -- nothing is read where no level is left
  deep_unread : (begins : Bool) (ts : List Token) (x : PlainExpression × List Token) → too_deep b begins ts ≡ Ok x → ⊥
  deep_unread true ts x e = not_read _ x e
  deep_unread false ts x e = not_read _ x e

  -- and the limit is told of what begins
  deep_told : (begins : Bool) (ts : List Token) → begins ≡ true → too_deep b begins ts
      ≡ Err (Passed (nesting_limit b) (length ts))
  deep_told begins ts h = ap (λ t. too_deep b t ts) h

  expression_none : Reads (expression_form b zero) ends_expression (expression_at b zero)
  unfolding expression_at
  expression_none = record {
    sound = λ ts rest e is. absurd (deep_unread (begins_expression (front ts)) ts (e, rest) is);
    found = λ e ts rest h good ends.
        inr (
          nesting_limit b,
          length ts,
          deep_told (begins_expression (front ts)) ts
              (expression_begins e ts rest h good),
          inl (expression_level e, refl),
        );
  }

  atom_none : Reads (atom_form b zero) ends_atom (atom_at b zero)
  unfolding atom_at
  atom_none = record {
    sound = λ ts rest e is. absurd (deep_unread (begins_atom (front ts)) ts (e, rest) is);
    found = λ e ts rest h good ends.
        inr (
          nesting_limit b,
          length ts,
          deep_told (begins_atom (front ts)) ts
              (atom_begins e ts rest h (and_parts (is_atom e) (formed_expression e) good).0),
          inl (expression_level e, refl),
        );
  }

  module _ (types : Reads (type_form b) ends_type (type_at b)) where
    expression_more : (n : ℕ) → Reads (expression_form b n) ends_expression (expression_at b n) →
        Reads (atom_form b n) ends_atom (atom_at b n)
        → Reads (expression_form b (suc n)) ends_expression (expression_at b (suc n))
    unfolding expression_at
    expression_more n inner atoms = expression_with_reads b types n (expression_at b n) (atom_at b n) inner atoms

    atom_more : (n : ℕ) → Reads (expression_form b n) ends_expression (expression_at b n) →
        Reads (atom_form b n) ends_atom (atom_at b n)
        → Reads (atom_form b (suc n)) ends_atom (atom_at b (suc n))
    unfolding atom_at
    atom_more n inner atoms = atom_with_reads b n (expression_at b n) (atom_at b n) inner atoms

    both_read : (n : ℕ) → Reads (expression_form b n) ends_expression (expression_at b n)
        × Reads (atom_form b n) ends_atom (atom_at b n)
    both_read zero = (expression_none, atom_none)
    both_read (suc n) = let below = both_read n in (expression_more n below.0 below.1, atom_more n below.0 below.1)

    -- an expression, with so many levels left
    pub expression_reads : (n : ℕ) → Reads (expression_form b n) ends_expression (expression_at b n)
    expression_reads n = (both_read n).0

    -- an atom
    pub atom_reads : (n : ℕ) → Reads (atom_form b n) ends_atom (atom_at b n)
    atom_reads n = (both_read n).1

  -- ---- calls

  name_there : (bytes : Bytes) (ts : List Token) → front ts ≡ Some (Name bytes) → (name : Placed Bytes)
      × (name_at ts ≡ Ok (name, drop 1 ts))
  name_there bytes [] is = absurd cc
  name_there bytes (t ∷ ts) is =
      let same : t.what ≡ Name bytes = cc in
      (record { name = bytes; at = t.at }, ap (λ w. value_or_no (t ∷ ts) (name_of w t.at)) same)

  call_none_found : (e : PlainExpression) (ts rest : List Token) → Begins (expression_words e) ts rest →
      (is_call e && formed_expression e) ≡ true
      → Finds (call_form b zero) e rest (name_at ts >>= no_call b)
  call_none_found e ts rest h good =
      let c = call_begins e ts rest h (and_parts (is_call e) (formed_expression e) good).0 in
      let name = name_there c.0 ts c.1 in
      let told : no_call b (name.0, drop 1 ts) ≡ Err (Passed (nesting_limit b) (length (drop 1 ts))) =
      deep_told (begins_with (Sign LeftParenthesis) (drop 1 ts)) (drop 1 ts)
      (begins_again (Sign LeftParenthesis) (drop 1 ts) c.2) in
      inr (nesting_limit b, length (drop 1 ts), ap (λ x. x >>= no_call b) name.1 ∙ told, inl (expression_level e, refl))

  call_none : Reads (call_form b zero) anything (call_at b zero)
  unfolding call_at
  call_none = record {
    sound = λ ts rest e is.
        let k = bind_ok (name_at ts) (no_call b) (e, rest) is in
        absurd (deep_unread (begins_with (Sign LeftParenthesis) k.0.1) k.0.1 (e, rest) k.2);
    found = λ e ts rest h good ends. call_none_found e ts rest h good;
  }

  call_more : (n : ℕ) → Reads (expression_form b n) ends_expression (expression_at b n) →
      Reads (call_form b (suc n)) anything (call_at b (suc n))
  unfolding call_at
  call_more n inner = call_with_reads b n (expression_at b n) (atom_at b n) inner

  module _ (types : Reads (type_form b) ends_type (type_at b)) where
    -- a call
    pub call_reads : (n : ℕ) → Reads (call_form b n) anything (call_at b n)
    call_reads zero = call_none
    call_reads (suc n) = call_more n (expression_reads types n)
