-- What the loop over the parts of a module's name keeps: what was read stands before what is still read.
use Rattle.std.proofs.Common.{◌≡◌, ℕ, suc, ◌+◌, ◌<◌, ◌≤◌, arith, true, false, nat_le, List, [], ◌∷◌, ◌++◌}
use Rattle.std.proofs.Common.{length, drop, Ok, Err, sym, ap, ◌∙◌}
use Rattle.std.proofs.lemmas.Bool.{cond-true, cond-false}
use Rattle.au_base.specs.declared.tokens.Sign.TheVariants.{Dot}
use Rattle.au_base.specs.declared.tokens.Token.{Token}
use Rattle.au_base.specs.declared.tokens.What.TheVariants.{Sign}
use Rattle.au_syntax.specs.Names.{Placed}
use Rattle.au_syntax.specs.Plain.{Bytes}
use Rattle.au_read_expressions.specs.declared.faults.Fault.TheVariants.{Passed}
use Rattle.au_read_expressions.specs.Bounds.{Bounds, bytes_limit}
use Rattle.au_read_expressions.specs.Reading.{Read, ◌>>=◌, begins_with, read_of, before_all, name_at}
use Rattle.au_read_expressions.proofs.Loops.{with_front, one_more}
use Rattle.au_parser.specs.ModuleReading.{after_name, name_step, names_within, bytes_with}

-- whether a number of bytes is within a limit
pub fits_true : (n m : ℕ) → n ≤ m → nat_le n m ≡ true
fits_true n m h = grind (arith, h)

pub fits_false : (n m : ℕ) → m < n → nat_le n m ≡ false
fits_false n m h = grind (arith, h)

module _ (b : Bounds) (read : List (Placed Bytes)) where
  -- what is read behind a name, where the bytes with it are known
  name_then : (x : Placed Bytes) (k j used bytes : ℕ) (rest next : List Token) → k ≡ suc j →
      name_at rest ≡ Ok (x, next) → bytes ≡ bytes_with used x
      → with_front read (names_within b k used rest) ≡ with_front read (after_name b (names_within b j) bytes (x, next))
  name_then x k j used bytes rest next is one sum =
      ap (λ n. with_front read (names_within b n used rest)) is
      ∙ ap (λ r. with_front read (r >>= name_step b (names_within b j) used)) one
      ∙ ap (λ n. with_front read (after_name b (names_within b j) n (x, next))) (sym sum)

  abbrev further : (x : Placed Bytes) (j bytes : ℕ) (next : List Token) → Read (List (Placed Bytes))
  further x j bytes next = names_within b j (bytes + 1) (drop 1 next) >>= before_all x

  pub names_on : (x : Placed Bytes) (k j used bytes : ℕ) (rest next : List Token) → k ≡ suc j →
      name_at rest ≡ Ok (x, next) → bytes ≡ bytes_with used x → nat_le bytes b.bytes ≡ true
      → begins_with (Sign Dot) next ≡ true → with_front read (names_within b k used rest)
      ≡ with_front (read ++ x ∷ []) (names_within b j (bytes + 1) (drop 1 next))
  names_on x k j used bytes rest next is one sum fits more =
      name_then x k j used bytes rest next is one sum
      ∙ ap (with_front read) (cond-true (nat_le bytes b.bytes) _ _ fits)
      ∙ ap (with_front read) (cond-true (begins_with (Sign Dot) next) (further x j bytes next)
      (read_of (x ∷ []) next) more)
      ∙ one_more read x (names_within b j (bytes + 1) (drop 1 next))

  pub names_end : (x : Placed Bytes) (k j used bytes : ℕ) (rest next : List Token) → k ≡ suc j →
      name_at rest ≡ Ok (x, next) → bytes ≡ bytes_with used x → nat_le bytes b.bytes ≡ true
      → begins_with (Sign Dot) next ≡ false → with_front read (names_within b k used rest) ≡ Ok (read ++ x ∷ [], next)
  names_end x k j used bytes rest next is one sum fits last =
      name_then x k j used bytes rest next is one sum
      ∙ ap (with_front read) (cond-true (nat_le bytes b.bytes) _ _ fits)
      ∙ ap (with_front read) (cond-false (begins_with (Sign Dot) next) (further x j bytes next)
      (read_of (x ∷ []) next) last)

  pub names_pass : (x : Placed Bytes) (k j used bytes : ℕ) (rest next : List Token) → k ≡ suc j →
      name_at rest ≡ Ok (x, next) → bytes ≡ bytes_with used x → nat_le bytes b.bytes ≡ false
      → with_front read (names_within b k used rest) ≡ Err (Passed (bytes_limit b) (length next))
  names_pass x k j used bytes rest next is one sum long =
      name_then x k j used bytes rest next is one sum
      ∙ ap (with_front read) (cond-false (nat_le bytes b.bytes) _ _ long)
