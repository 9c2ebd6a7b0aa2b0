use Rattle.{mg_access.proofs.StandingFacts.told-word, std.proofs.{Common.◌∙◌, lemmas.Result.IfOk-weaker}}
use Rattle.mg_access.proofs.lists.list_word.Goals as goal

pub returns-clause-word : goal.returns-clause-word
returns-clause-word g c =
    IfOk-weaker c.word.result _ _
    (λ word same image told. same image told
    ∙ told-word c.args.volume.now image (c.requires.sound.stands.fits image told) (c.requires.sound.formed image told) c.args.list c.requires.held c.args.index c.requires.index)
    c.word.ensures.word
