-- What stands in types, case by case. The definitions are opaque; these equations stand for them, and
-- `mention_steps` and `written_steps` name them.
use Rattle.std.proofs.Common.{◌≡◌, ℕ, ◌+◌, ◌<◌, List, [], ◌∷◌, ◌++◌, Option, length, take, get_or, refl}
use Rattle.std.proofs.Common.{sym, ap, ◌∙◌, append_assoc}
use Rattle.std.proofs.lemmas.List.{append-nil, take_more}
use Rattle.au_base.specs.declared.kinds.IntKind.{IntKind}
use Rattle.au_base.specs.declared.places.Pos.{Pos}
use Rattle.au_syntax.specs.declared.types.Access.{Access}
use Rattle.au_syntax.specs.declared.types.TypeText.{TypeText}
use Rattle.au_syntax.specs.Names.{Placed}
use Rattle.au_syntax.specs.Plain.{Bytes}
use Rattle.au_syntax.specs.Types.{WrittenType, WrittenTypes, named, reference, no_types}
use Rattle.au_syntax.specs.Views.{written, written_all}
use Rattle.au_types.specs.declared.types.Arg.{Arg}
use Rattle.au_types.specs.declared.types.DeclAt.{DeclAt}
use Rattle.au_types.specs.declared.types.Region.{Region}
use Rattle.au_types.specs.Senses.{Sense}
use Rattle.au_types.specs.Types as mean
use Rattle.au_types.specs.Types.{Meaning, Arguments}
use Rattle.au_types.specs.Views.{argument, argument_all}
use Rattle.au_caps_lists.specs.Mentions.{Mention, declared, generic, mentions, mentions_in, mentions_in_all}
use Rattle.au_caps_lists.specs.Mentions.{mentions_of, written_mentions, all_written}

-- nothing more behind a list
pub nothing_more : (start all : List Mention) → all ≡ [] → start ≡ start ++ all
nothing_more start all is = sym (ap (λ r. start ++ r) is ∙ append-nil start)

-- ---- types

pub in_unit : mentions mean.unit ≡ []
unfolding mentions
in_unit = refl

pub in_truth : mentions mean.truth ≡ []
unfolding mentions
in_truth = refl

pub in_integer : (kind : IntKind) → mentions (mean.integer kind) ≡ []
unfolding mentions
in_integer kind = refl

pub in_text : mentions mean.text ≡ []
unfolding mentions
in_text = refl

pub in_parameter : (name : Bytes) → mentions (mean.parameter name) ≡ generic name ∷ []
unfolding mentions
in_parameter name = refl

pub in_named : (at : DeclAt) (args : Arguments) → mentions (mean.named at args)
    ≡ declared at ∷ mentions_in_all args
unfolding mentions
in_named at args = refl

pub in_reads : (t : Meaning) (region : Region) → mentions (mean.reads t region) ≡ mentions t
unfolding mentions
in_reads t region = refl

pub in_writes : (t : Meaning) (region : Region) → mentions (mean.writes t region) ≡ mentions t
unfolding mentions
in_writes t region = refl

pub in_type : (t : Meaning) → mentions_in (mean.of_type t) ≡ mentions t
unfolding mentions_in
in_type t = refl

pub in_region : (region : Region) → mentions_in (mean.in_region region) ≡ []
unfolding mentions_in
in_region region = refl

pub in_none : mentions_in_all mean.no_arguments ≡ []
unfolding mentions_in_all
in_none = refl

-- those in one more argument
push_argument : (xs : List Arg) (x : Arg)
    → mentions_in_all (argument_all (xs ++ x ∷ [])) ≡ mentions_in_all (argument_all xs) ++ mentions_in
    (argument x)
unfolding mentions_in_all
push_argument [] x = append-nil (mentions_in (argument x))
push_argument (one ∷ rest) x =
    ap (λ r. mentions_in (argument one) ++ r) (push_argument rest x)
    ∙ sym (append_assoc (mentions_in (argument one)) (mentions_in_all (argument_all rest))
    (mentions_in (argument x)))

pub more_arguments : (xs : List Arg) (i : ℕ) (x : Arg) → i < length xs → x ≡ get_or xs i x
    → mentions_in_all (argument_all (take (i + 1) xs))
    ≡ mentions_in_all (argument_all (take i xs)) ++ mentions_in (argument x)
more_arguments xs i x within is =
    ap (λ r. mentions_in_all (argument_all r)) (take_more xs i x within)
    ∙ push_argument (take i xs) (get_or xs i x)
    ∙ ap (λ one. mentions_in_all (argument_all (take i xs)) ++ mentions_in (argument one)) (sym is)

pub ruleset mention_steps = (
  in_unit,
  in_truth,
  in_integer,
  in_text,
  in_parameter,
  in_named,
  in_reads,
  in_writes,
  in_type,
  in_region,
  in_none,
)

-- ---- written types

module _ (sense : Bytes → Option Sense) where
  pub in_written_name : (name : Placed Bytes) (args : WrittenTypes)
      → written_mentions sense (named name args) ≡ mentions_of (sense name.name) ++ all_written sense args
  unfolding written_mentions
  in_written_name name args = refl

  pub in_reference : (at : Pos) (access : Access) (target : WrittenType) (region : Placed Bytes)
      → written_mentions sense (reference at access target region) ≡ written_mentions sense target
  unfolding written_mentions
  in_reference at access target region = refl

  pub in_no_types : all_written sense no_types ≡ []
  unfolding all_written
  in_no_types = refl

  -- those in one more type
  push_type : (ts : List TypeText) (t : TypeText)
      → all_written sense (written_all (ts ++ t ∷ []))
      ≡ all_written sense (written_all ts) ++ written_mentions sense (written t)
  unfolding all_written
  push_type [] t = append-nil (written_mentions sense (written t))
  push_type (one ∷ rest) t =
      ap (λ r. written_mentions sense (written one) ++ r) (push_type rest t)
      ∙ sym (append_assoc (written_mentions sense (written one)) (all_written sense (written_all rest))
      (written_mentions sense (written t)))

  pub more_written : (ts : List TypeText) (i : ℕ) (t : TypeText) → i < length ts → t ≡ get_or ts i t
      → all_written sense (written_all (take (i + 1) ts))
      ≡ all_written sense (written_all (take i ts)) ++ written_mentions sense (written t)
  more_written ts i t within is =
      ap (λ r. all_written sense (written_all r)) (take_more ts i t within)
      ∙ push_type (take i ts) (get_or ts i t)
      ∙ ap (λ x. all_written sense (written_all (take i ts)) ++ written_mentions sense (written x)) (sym is)

pub ruleset written_steps = (in_written_name, in_reference, in_no_types)
