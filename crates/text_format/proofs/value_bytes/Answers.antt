-- `text_format::value_bytes` meets its contract.
use Rattle.message.proofs.Lending.{valid-lendable}
use Rattle.text_format.proofs.Opened.{bytes-barred}
use Rattle.text_format.proofs.Tables.{bytes-lent}
use Rattle.text_format.proofs.value_bytes.Goals as goal

pub value_bytes-requires : goal.value_bytes-requires
value_bytes-requires c = valid-lendable _ _ _ _ c.in-Ok.ensures.valued

pub returns-in-Ok : goal.returns-in-Ok
returns-in-Ok c = bytes-lent _ _ _ _ c.in-Ok.ensures _ _ c.value_bytes.ensures

pub returns-in-Err : goal.returns-in-Err
returns-in-Err c = bytes-barred _ _ _ _ _ c.in-Err.ensures
