use Rattle.net_sums.proofs.Bases.{wide_is, two_way_is}
use Rattle.net_sums.proofs.PlainSum.{plain_sum}
use Rattle.net_sums.proofs.TokenSum.{token_net_sum}
use Rattle.net_sums.proofs.WeaveSum.{weave_sum}
use Rattle.net_sums.proofs.laws.net_sums_law.Goals as goal

pub returns-clause-wide : goal.returns-clause-wide
returns-clause-wide c = wide_is

pub returns-clause-two : goal.returns-clause-two
returns-clause-two c = two_way_is

pub returns-clause-plain : goal.returns-clause-plain
returns-clause-plain c = λ sum d p net w h is t. plain_sum sum w d p net h is t

pub returns-clause-token : goal.returns-clause-token
returns-clause-token c = λ sum d p net w h is t. token_net_sum d p h sum w net is t

pub returns-clause-weave : goal.returns-clause-weave
returns-clause-weave c = λ sum d net w admitted is t. weave_sum sum w d net admitted is t
