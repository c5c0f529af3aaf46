use Rattle.std.proofs.Common.{sym, ◌∙◌, refl}
use Rattle.words.proofs.Blanks.{next_word_is}
use Rattle.words.proofs.WordsIterator.next.Goals as goal

pub returns-clause-steps : goal.returns-clause-steps
returns-clause-steps c =
    next_word_is c.args.self.now.rest.now _ _ _ c.in_ok-start.start c.unwrap_or.result c.find_blank.result
    (sym c.find_word.ensures ∙ c.in_ok-start.was) refl c.find_blank.ensures c.unwrap_or.ensures c.split_at.ensures.front c.split_at.ensures.back
