-- Counts up to two, part by part.
use Rattle.std.proofs.Common.{◌≡◌, ℕ, zero, suc, ◌+◌, ◌<◌, ◌≤◌, ◌==◌, Bool, true, false, ◌||◌, List, [], ◌∷◌}
use Rattle.std.proofs.Common.{length, drop, map, ap, ◌∙◌, sym, refl, get_or, arith, add-one, drop-cons, not}
use Rattle.std.proofs.Common.{if◌then◌else◌}
use Rattle.std.proofs.lemmas.List.{drop_all}
use Rattle.std.specs.Str.{bytes_eq}
use Rattle.au_base.proofs.NumberLemmas.{not_none}
use Rattle.au_syntax.specs.declared.phases.Phase.{Ghosts}
use Rattle.au_syntax.specs.declared.expressions.Argument.{Argument}
use Rattle.au_syntax.specs.declared.expressions.Expr.{Expr}
use Rattle.au_syntax.specs.Names.{Placed}
use Rattle.au_syntax.specs.Expressions.{Node, path}
use Rattle.au_syntax.specs.Views.{expression, expression_all, argument_all}
use Rattle.au_syntax.specs.Plain.{Bytes, plain_expression, plain_expressions, plain_arguments}
use Rattle.au_lives.specs.Mentions.{Counts, plus, unmentioned, one_look, one_consumption, is_variable}
use Rattle.au_lives.specs.Mentions.{mentioned_with, where_named, counts_in, counts_in_all}
use Rattle.au_lives.specs.Mentions.{counts_in_arguments}
use Rattle.au_lives.specs.declared.tallies.Few.{Few}
use Rattle.au_lives.specs.declared.tallies.Few.TheVariants.{Zero, One, More}
use Rattle.au_lives.specs.declared.tallies.Tally.{Tally}
use Rattle.au_lives.specs.Tallies.{few, few_and, tally_of, tally_and}

few_plus : (m n : ℕ) → few (m + n) ≡ few_and (few m) (few n)
few_plus zero n = ap few (omega arith)
few_plus (suc zero) zero = refl
few_plus (suc zero) (suc zero) = refl
few_plus (suc zero) (suc (suc n)) = let e : suc zero + suc (suc n) ≡ suc (suc (suc n)) = omega arith in
    ap few e
few_plus (suc (suc m)) n = let e : suc (suc m) + n ≡ suc (suc (m + n)) = omega arith in ap few e

few_assoc : (a b c : Few) → few_and (few_and a b) c ≡ few_and a (few_and b c)
few_assoc Zero b c = refl
few_assoc One Zero c = refl
few_assoc One One Zero = refl
few_assoc One One One = refl
few_assoc One One More = refl
few_assoc One More c = refl
few_assoc More b c = refl

few_none : (a : Few) → few_and a Zero ≡ a
few_none Zero = refl
few_none One = refl
few_none More = refl

abbrev tally : Few → Few → Few → Few → Tally
tally c w r l = record { consumed = c; written = w; read = r; looked = l }

tally_same : {a b c d e f g h : Few} → a ≡ e → b ≡ f → c ≡ g → d ≡ h → tally a b c d ≡ tally e f g h
tally_same p q r s = cc

-- both parts together
pub tally_plus : (k l : Counts) → tally_of (plus k l) ≡ tally_and (tally_of k) (tally_of l)
tally_plus k l = tally_same (few_plus k.consumed l.consumed) (few_plus k.written l.written)
    (few_plus k.read l.read) (few_plus k.looked l.looked)

-- three parts together
pub tally_plus_both : (k l m : Counts) → tally_of (plus k (plus l m))
    ≡ tally_and (tally_of k) (tally_and (tally_of l) (tally_of m))
tally_plus_both k l m = tally_plus k (plus l m) ∙ ap (tally_and (tally_of k)) (tally_plus l m)

pub tally_assoc : (a b c : Tally) → tally_and (tally_and a b) c ≡ tally_and a (tally_and b c)
tally_assoc a b c = tally_same (few_assoc a.consumed b.consumed c.consumed)
    (few_assoc a.written b.written c.written) (few_assoc a.read b.read c.read)
    (few_assoc a.looked b.looked c.looked)

pub tally_none : (a : Tally) → tally_and a (tally_of unmentioned) ≡ a
tally_none a = tally_same (few_none a.consumed) (few_none a.written) (few_none a.read) (few_none a.looked)

pick : (b : Bool) (k : Counts) → tally_of (if b then k else unmentioned)
    ≡ (if b then tally_of k else tally_of unmentioned)
pick true k = refl
pick false k = refl

pub tally_named : (x name : Bytes) (k : Counts) → tally_of (where_named x name k)
    ≡ (if bytes_eq name x then tally_of k else tally_of unmentioned)
tally_named x name k = pick (bytes_eq name x) k

some : (n : ℕ) → (suc n == 0) ≡ false
some n = not_none n (suc n == 0) refl

-- a path is a variable alone where it has no fields
pub alone : {A B : Type 0} (g : A → B) (f : B → Placed Bytes) (node : Node (Unit {0})) (name : Placed Bytes)
    (fields : List A) →
    is_variable (path node name (map f (map g fields))) ≡ (length fields == 0)
alone g f node name [] = refl
alone g f node name (field ∷ fields) = sym (some (length fields))

pub with_fields : {A B : Type 0} (g : A → B) (f : B → Placed Bytes) (free : Bool) (fields : List A) →
    mentioned_with free (map f (map g fields))
    ≡ (if free || not (length fields == 0) then one_look else one_consumption)
with_fields g f true [] = refl
with_fields g f false [] = refl
with_fields g f true (field ∷ fields) = refl
with_fields g f false (field ∷ fields) =
    ap (λ (b : Bool). if not b then one_look else one_consumption) (sym (some (length fields)))

-- one more part of a sum: what is left of it is less
pub added : (sum part next all : Tally) (k l m : Counts) → tally_and sum (tally_of m) ≡ all → part
    ≡ tally_of k → m ≡ plus k l → next ≡ tally_and sum part → tally_and next (tally_of l) ≡ all
added sum part next all k l m before p split n =
    ap (λ t. tally_and t (tally_of l)) n
    ∙ tally_assoc sum part (tally_of l)
    ∙ ap (λ t. tally_and sum (tally_and t (tally_of l))) p
    ∙ ap (tally_and sum) (sym (ap tally_of split ∙ tally_plus k l))
    ∙ before

-- nothing is left of a sum
pub ended : (sum all : Tally) (m : Counts) → tally_and sum (tally_of m) ≡ all → m ≡ unmentioned → sum ≡ all
ended sum all m h e = sym (tally_none sum) ∙ ap (λ k. tally_and sum (tally_of k)) (sym e) ∙ h

module _ {X N T C : Type 0} (g : Ghosts X N T C) (x : Bytes) (free : Bool) where
  pub none_of_all : (xs : List (Expr X N T C)) (i : ℕ) → length xs ≤ i →
      counts_in_all x free (plain_expressions g.name_bytes (expression_all g (drop i xs))) ≡ unmentioned
  none_of_all xs i h = ap (λ l. counts_in_all x free (plain_expressions g.name_bytes (expression_all g l)))
      (drop_all i xs h)

  pub none_of_arguments : (xs : List (Argument X N T C)) (i : ℕ) → length xs ≤ i →
      counts_in_arguments x free (plain_arguments g.name_bytes (argument_all g (drop i xs))) ≡ unmentioned
  none_of_arguments xs i h =
      ap (λ l. counts_in_arguments x free (plain_arguments g.name_bytes (argument_all g l))) (drop_all i xs h)

  pub left_of_all : (xs : List (Expr X N T C)) (i : ℕ) (d : Expr X N T C) → i < length xs →
      counts_in_all x free (plain_expressions g.name_bytes (expression_all g (drop i xs)))
      ≡ plus (counts_in x free (plain_expression g.name_bytes (expression g (get_or xs i d))))
      (counts_in_all x free (plain_expressions g.name_bytes (expression_all g (drop (i + 1) xs))))
  left_of_all xs i d h = rw (add-one, drop-cons xs i d h) refl

  pub left_of_arguments : (xs : List (Argument X N T C)) (i : ℕ) (d : Argument X N T C) → i < length xs →
      counts_in_arguments x free (plain_arguments g.name_bytes (argument_all g (drop i xs)))
      ≡ plus (counts_in x free (plain_expression g.name_bytes (expression g (get_or xs i d).value)))
      (counts_in_arguments x free (plain_arguments g.name_bytes (argument_all g (drop (i + 1) xs))))
  left_of_arguments xs i d h = rw (add-one, drop-cons xs i d h) refl

pub ruleset count_steps = (tally_plus, tally_plus_both, tally_named)
