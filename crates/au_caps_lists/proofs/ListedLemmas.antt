-- The lists of what a body holds and hands on, by what stands in types.
use Rattle.std.proofs.Common.{◌≡◌, List, [], ◌++◌, Option, ap, ◌∙◌, subst}
use Rattle.au_syntax.specs.Plain.{Bytes}
use Rattle.au_syntax.specs.declared.modules.Part.TheVariants.{Body}
use Rattle.au_types.specs.declared.parameters.Parameter.{Parameter}
use Rattle.au_types.specs.Senses.{Sense, sense_of}
use Rattle.au_modules.specs.Programs.{ModuleParts}
use Rattle.au_names.specs.HeadsOf.{heads_of}
use Rattle.au_typing.specs.Written.{types_at}
use Rattle.au_caps_text.specs.Lists.{IsListOf}
use Rattle.au_caps_lists.specs.Bodies.{Bodied, params_of, sense_in}
use Rattle.au_caps_lists.specs.Holding.{Hands, Holds, handed_by_block, handed_mentions, held_in_block}
use Rattle.au_caps_lists.specs.Holding.{held_mentions}
use Rattle.au_caps_lists.specs.Mentions.{Mention, field_mentions, written_mentions}
use Rattle.au_caps_lists.specs.Reaching.{Reaches}

-- what a name means in a scope of a body
pub sense_same : (program : List ModuleParts) (b : Bodied) (params : List Parameter)
    (sense : Bytes → Option Sense)
    → params ≡ params_of b → sense ≡ sense_of [] params (types_at program b.place Body) (heads_of program)
    → sense ≡ sense_in program b
sense_same program b params sense same is =
    is ∙ (λ i name. sense_of [] (same i) (types_at program b.place Body) (heads_of program) name)

module _ (program : List ModuleParts) (b : Bodied) (params : List Parameter) (sense : Bytes → Option Sense)
    (all : List Mention) (same : params ≡ params_of b) (is_sense : sense ≡ sense_in program b) where
  pub holds_listed : all ≡ field_mentions sense b.header.parameters ++ held_in_block sense b.block
      → (list : List Bytes) → IsListOf (Reaches program params all) list → IsListOf (Holds program b) list
  holds_listed are list is =
      subst (λ (ps : List Parameter). IsListOf (Reaches program ps (held_mentions program b)) list) same
      (subst (λ (ms : List Mention). IsListOf (Reaches program params ms) list)
      (are ∙ ap (λ (s : Bytes → Option Sense). field_mentions s b.header.parameters ++ held_in_block s
      b.block) is_sense)
      is)

  pub hands_listed : all ≡ written_mentions sense b.header.result ++ handed_by_block b.block
      → (list : List Bytes) → IsListOf (Reaches program params all) list → IsListOf (Hands program b) list
  hands_listed are list is =
      subst (λ (ps : List Parameter). IsListOf (Reaches program ps (handed_mentions program b)) list) same
      (subst (λ (ms : List Mention). IsListOf (Reaches program params ms) list)
      (are ∙ ap (λ (s : Bytes → Option Sense). written_mentions s b.header.result ++ handed_by_block b.block)
      is_sense)
      is)
