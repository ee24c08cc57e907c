-- States whose nodes are such as may be handed in.
use Rattle.mx_state.specs.State.{State, AreProper}
use Rattle.mx_limit_laws.specs.Texts.{IsSmallText}

-- the text has small literals, and each held node is proper
pub record IsProperState (s : State) : Type 0 where
  pub small : IsSmallText s.text
  pub proper : AreProper s
