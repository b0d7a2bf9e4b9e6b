use Rattle.ipc_words.specs.Views.{request_view, texts}
use Rattle.ipc_tool.proofs.Words.{words_answered, words_refused}
use Rattle.ipc_tool.proofs.program.work.Goals as goal

pub returns-in_err-request-clause-answered : goal.returns-in_err-request-clause-answered
returns-in_err-request-clause-answered g c =
    words_refused (texts c.args.words.now) c.from_residual.result c.in_err-request.field-0.0 _ c.from_residual.ensures.1 c.in_err-request.ensures.refused

pub returns-clause-answered : goal.returns-clause-answered
returns-clause-answered g c =
    words_answered (texts c.args.words.now) (request_view c.in_ok-request.request) c.perform.result _ _ c.in_ok-request.ensures.asked c.perform.ensures.does
