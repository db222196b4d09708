use Rattle.std.proofs.Common.{◌∙◌, ap}
use Rattle.au_caps_text.specs.Views.{texts_in}
use Rattle.au_caps_text.proofs.ListLemmas.{listed}
use Rattle.au_caps_text.proofs.listing.list_of.Goals as goal

pub returns : goal.returns
returns c =
    listed c.args.texts.items c.order.new.texts.items c.from_vec.result c.order.ensures.ascends c.order.ensures.all
    c.order.ensures.only (c.from_vec.ensures ∙ c.in_ok-made.ensures ∙ ap texts_in c.as_slice.ensures.value)
