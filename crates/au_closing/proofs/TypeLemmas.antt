-- Whether a declared type has arguments tells whether it is one of a text.
use Rattle.std.proofs.Common.{◌≡◌, ◌<◌, false, List, [], ◌∷◌, length, Some, ap, arith}
use Rattle.au_syntax.specs.Plain.{Bytes}
use Rattle.au_types.specs.declared.headings.Head.{Head}
use Rattle.au_types.specs.declared.types.Arg.{Arg}
use Rattle.au_types.specs.declared.types.DeclAt.{DeclAt}
use Rattle.au_types.specs.Rows.{head_of}
use Rattle.au_types.specs.Types.{Meaning, named}
use Rattle.au_types.specs.Views.{argument_all}
use Rattle.au_closing.specs.Entries.{has_text, is_type}

module _ (heads : List (DeclAt × Head)) (text : Bytes) (t : Meaning) (at : DeclAt) where
  pub without_arguments : (args : List Arg) → t ≡ named at (argument_all args) → length args ≡ 0
      → is_type heads text (Some t) ≡ has_text text (head_of heads at)
  without_arguments [] is none = ap (λ m. is_type heads text (Some m)) is
  without_arguments (one ∷ more) is none = absurd (omega (arith, none))

  pub with_arguments : (args : List Arg) → t ≡ named at (argument_all args) → 0 < length args
      → is_type heads text (Some t) ≡ false
  with_arguments [] is some = absurd (omega (arith, some))
  with_arguments (one ∷ more) is some = ap (λ m. is_type heads text (Some m)) is
