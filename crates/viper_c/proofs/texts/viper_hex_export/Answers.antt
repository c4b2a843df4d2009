-- What an export answers can be counted.
use Rattle.surface.proofs.TextsSeen.{export_countable}
use Rattle.viper_c.proofs.texts.viper_hex_export.Goals as goal

pub export_number-requires : goal.export_number-requires
export_number-requires c = export_countable c.export_hex.ensures
