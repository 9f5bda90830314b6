use Rattle.xv_guest.proofs.LawLemmas.{put_there, put_within, put_held}
use Rattle.xv_guest.proofs.law.stores_are_local.Goals as goal

pub returns-clause-memory : goal.returns-clause-memory
returns-clause-memory c g region index frame bytes offset piece is held fits =
    put_there g region index frame is bytes held.memory offset piece fits

pub returns-clause-within : goal.returns-clause-within
returns-clause-within c g region index frame bytes offset piece is held fits =
    put_within g region index frame is bytes held.memory offset piece fits

pub returns-clause-held : goal.returns-clause-held
returns-clause-held c g region index frame bytes offset piece is held fits =
    put_held g region index frame is bytes held.memory offset piece fits held.order
