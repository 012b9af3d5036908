use Rattle.off_reader.proofs.Common.{SaysHeader, sym, subst}
use Rattle.off_reader.proofs.HeaderLemmas.{no_header, keyword_header, plain_header}
use Rattle.off_reader.proofs.header.read_header.Goals as goal

pub returns-in_default-clause-header : goal.returns-in_default-clause-header
returns-in_default-clause-header c = no_header _ c.in_default.ensures.word

pub returns-in-Some-keyword_of-clause-header : goal.returns-in-Some-keyword_of-clause-header
returns-in-Some-keyword_of-clause-header c =
    subst (λ h. SaysHeader h c.behind_keyword.result c.behind_keyword.new.cursor)
    (sym (keyword_header _ _ _ c.in-Some.word.now _ _ c.in-Some.ensures.word c.in-Some-keyword_of.ensures)) c.behind_keyword.ensures.header

pub returns-in-None-clause-header : goal.returns-in-None-clause-header
returns-in-None-clause-header c =
    subst (λ h. SaysHeader h c.counts_from.result c.counts_from.new.cursor)
    (sym (plain_header _ _ _ c.in-Some.word.now _ c.in-Some.ensures.word c.in-None.ensures)) c.counts_from.ensures.header
