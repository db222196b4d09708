use Rattle.au_names.proofs.SeenLemmas.{seen_meant, meant_seen}
use Rattle.au_names.proofs.laws.seen_is_meant.Goals as goal

pub returns : goal.returns
returns c = record {
  meant = λ program place m part space name meaning h. seen_meant space program place m part name meaning h;
  found = λ program place m part space name meaning h. meant_seen space program place m part name meaning h;
}
