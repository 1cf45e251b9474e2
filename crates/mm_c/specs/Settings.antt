-- The settings that C gives.
use Rattle.mm_model.specs.declared.settings.Settings.{Settings}
use Rattle.mm_c.specs.declared.settings.MmSettings.{MmSettings}

abbrev pub settings_of : MmSettings → Settings
settings_of it = record { pages = it.pages; max = it.max; zct = it.zct; queue = it.queue; stack = it.stack }
